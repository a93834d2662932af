-- Lines as bytes: those of some lines among whole ones are a part of the bytes, and whole lines of the same bytes are the same
-- lines. By induction on the lines. So the lines of a sound register are its used part. Assumes nothing.
use Prim.Native.Nat.{ℕ, zero, suc, ◌+◌, ◌*◌, ◌/◌, ◌≤◌}
use mathlib.Core.List.{List, [], ◌∷◌, ◌++◌, append_assoc}
use mathlib.Core.Path.{◌≡◌, refl, sym, ◌∙◌, ap}
use native.Mathlib.Nat.{add_comm, suc-mul, zero-mul, div-add-mod'}
use native.Mathlib.Omega.{arith}
use lib.ListN.{length, take, drop, length-drop}
use lib.Seq.{take_at, take-append-add, drop-append-add}
use Rattle.register.specs.Layout.{Layout, lent, length_of, cut_lines, bytes_of, line_layout, line_length, used_lines}
use Rattle.register.specs.Check.{check_of}
use Rattle.register.specs.Scan.{SoundLines}
use Rattle.register.proofs.LayoutLaws.{Whole, UsedPart, used_part, used_cut, cut_count}
use Rattle.register.proofs.CheckLaws.{check_sound}

-- two lists of lines one after the other
pub bytes_append : (ls ms : List (List ℕ)) → bytes_of (ls ++ ms) ≡ bytes_of ls ++ bytes_of ms
bytes_append [] ms = refl
bytes_append (l ∷ ls) ms = simp (bytes_append ls ms, append_assoc)

module _ (y : Layout) where
  pub whole_take : (n : ℕ) (ls : List (List ℕ)) → Whole y ls → Whole y (take n ls)
  whole_take zero ls h = tt
  whole_take (suc n) [] h = tt
  whole_take (suc n) (l ∷ ls) h = (h.0, whole_take n ls h.1)

  pub whole_drop : (n : ℕ) (ls : List (List ℕ)) → Whole y ls → Whole y (drop n ls)
  whole_drop zero ls h = h
  whole_drop (suc n) [] h = tt
  whole_drop (suc n) (l ∷ ls) h = whole_drop n ls h.1

  -- the first lines are the first bytes, whatever follows, and the others the rest
  take_lines : (n : ℕ) (ls : List (List ℕ)) (rest : List ℕ) → Whole y ls → n ≤ length ls
      → take (n * length_of y) (bytes_of ls ++ rest) ≡ bytes_of (take n ls)
  take_lines zero ls rest h inside = simp zero-mul
  take_lines (suc n) [] rest h inside = absurd (omega arith)
  take_lines (suc n) (l ∷ ls) rest h inside =
      rw (suc-mul n (length_of y), add_comm (n * length_of y) (length_of y), ← h.0, append_assoc l (bytes_of ls) rest, take-append-add)
      (ap (λ (x : List ℕ). l ++ x) (rw h.0 (take_lines n ls rest h.1 (omega arith))))

  drop_lines : (n : ℕ) (ls : List (List ℕ)) (rest : List ℕ) → Whole y ls → n ≤ length ls
      → drop (n * length_of y) (bytes_of ls ++ rest) ≡ bytes_of (drop n ls) ++ rest
  drop_lines zero ls rest h inside = simp zero-mul
  drop_lines (suc n) [] rest h inside = absurd (omega arith)
  drop_lines (suc n) (l ∷ ls) rest h inside =
      rw (suc-mul n (length_of y), add_comm (n * length_of y) (length_of y), ← h.0, append_assoc l (bytes_of ls) rest, drop-append-add)
      (rw h.0 (drop_lines n ls rest h.1 (omega arith)))

  -- so some lines among others are a part of the bytes
  pub part_lines : (from n : ℕ) (ls : List (List ℕ)) (rest : List ℕ) → Whole y ls → from + n ≤ length ls
      → take (n * length_of y) (drop (from * length_of y) (bytes_of ls ++ rest)) ≡ bytes_of (take n (drop from ls))
  part_lines from n ls rest h inside =
      ap (take (n * length_of y)) (drop_lines from ls rest h (omega arith))
      ∙ take_lines n (drop from ls) rest (whole_drop from ls h) (simp length-drop (omega arith))

  -- whole lines of the same bytes
  pub same_lines : (ls ms : List (List ℕ)) → Whole y ls → Whole y ms → bytes_of ls ≡ bytes_of ms → ls ≡ ms
  same_lines ls ms h g e =
      sym (used_cut y ls [] h)
      ∙ ap (λ (x : List ℕ). cut_lines y (length x / length_of y) (x ++ [])) e
      ∙ used_cut y ms [] g

-- what a sound register is: whole lines that check sound, and as many as its used length has
pub record Sound (s : List ℕ) (used : ℕ) : Type 0 where
  pub inside : used ≤ length s
  pub lines : SoundLines (used_lines (lent s used))
  pub count : length (used_lines (lent s used)) ≡ used / line_length
  pub filled : used / line_length * line_length ≡ used
  pub part : UsedPart line_layout s used

pub sound_register : (s : List ℕ) (used : ℕ) → (check_of (lent s used)).refusal ≡ 0 → Sound s used
sound_register s used good =
    let k = check_sound line_layout (lent s used) good in
    record {
      inside = k.0;
      lines = k.2;
      count = cut_count line_layout (used / line_length) s;
      filled = omega (arith, div-add-mod' used line_length, k.1);
      part = used_part line_layout s used k.0 k.1;
    }

-- some of its lines are a part of its bytes
pub lines_part : (s : List ℕ) (used : ℕ) (r : Sound s used) (from n : ℕ) → from + n ≤ used / line_length
    → take (n * line_length) (drop (from * line_length) s) ≡ bytes_of (take n (drop from (used_lines (lent s used))))
lines_part s used r from n h =
    ap (λ (x : List ℕ). take (n * line_length) (drop (from * line_length) x)) (sym r.part.bytes)
    ∙ part_lines line_layout from n (used_lines (lent s used)) (drop used s) r.part.whole (omega (arith, r.count))

-- and all of them the used part
pub used_text : (s : List ℕ) (used : ℕ) → Sound s used → bytes_of (used_lines (lent s used)) ≡ take used s
used_text s used r = sym (take_at (bytes_of (used_lines (lent s used))) (drop used s) used r.part.size) ∙ ap (take used) r.part.bytes
