-- Cutting bytes into lines, for any layout: so many lines are cut as are asked for, each is a part of the bytes, and lines that
-- are whole are cut again where they were laid one after the other. By induction on the lines. Assumes nothing.
use Prim.Native.Nat.{ℕ, zero, suc, ◌+◌, ◌*◌, ◌/◌, ◌%◌, ◌≤◌, ◌<◌}
use mathlib.Core.List.{List, [], ◌∷◌, ◌++◌, append_assoc, append-nil}
use mathlib.Core.Path.{◌≡◌, refl, sym, ◌∙◌, ap}
use native.Mathlib.Nat.{add_comm, suc-mul, zero-mul, mul-div_cancel, div-add-mod'}
use native.Mathlib.Omega.{arith}
use lib.ListN.{length, get_or, take, drop, length-append, length-drop, take-append-drop}
use lib.Seq.{take_at, drop_at, drop-drop, length-take-le}
use Rattle.register.specs.Layout.{Layout, length_of, cut_lines, bytes_of, used_by}

-- the line that begins at an offset
abbrev pub line_at : Layout → List ℕ → ℕ → List ℕ
line_at y s at = take (length_of y) (drop at s)

-- every line of a list is as long as a line
abbrev pub Whole : Layout → List (List ℕ) → Type 0
Whole y [] = Unit
Whole y (l ∷ ls) = (length l ≡ length_of y) × Whole y ls

-- one more line at the end of lines
pub bytes_more : (ls : List (List ℕ)) (l : List ℕ) → bytes_of (ls ++ (l ∷ [])) ≡ bytes_of ls ++ l
bytes_more [] l = simp append-nil
bytes_more (m ∷ ls) l = simp (bytes_more ls l, append_assoc)

module _ (y : Layout) where
  pub whole_more : (ls : List (List ℕ)) (l : List ℕ) → Whole y ls → length l ≡ length_of y → Whole y (ls ++ (l ∷ []))
  whole_more [] l h e = (e, tt)
  whole_more (m ∷ ls) l h e = (h.0, whole_more ls l h.1 e)

  -- so many lines are cut as are asked for
  pub cut_count : (n : ℕ) (s : List ℕ) → length (cut_lines y n s) ≡ n
  unfolding cut_lines
  cut_count zero s = refl
  cut_count (suc n) s = ap suc (cut_count n (drop (length_of y) s))

  -- each is a part of the bytes
  drop_line : (n : ℕ) (s : List ℕ) → drop (n * length_of y) (drop (length_of y) s) ≡ drop (suc n * length_of y) s
  drop_line n s =
      drop-drop (n * length_of y) (length_of y) s
      ∙ ap (λ (m : ℕ). drop m s) (add_comm (length_of y) (n * length_of y) ∙ sym (suc-mul n (length_of y)))

  pub cut_at : (n : ℕ) (s : List ℕ) (k : ℕ) → k < n → get_or (cut_lines y n s) k [] ≡ line_at y s (k * length_of y)
  unfolding cut_lines
  cut_at zero s k h = absurd (omega arith)
  cut_at (suc n) s zero h = simp zero-mul
  cut_at (suc n) s (suc k) h = cut_at n (drop (length_of y) s) k (omega arith) ∙ ap (take (length_of y)) (drop_line k s)

  -- one more line at the end of those cut
  pub cut_snoc : (n : ℕ) (s : List ℕ) → cut_lines y (suc n) s ≡ cut_lines y n s ++ (line_at y s (n * length_of y) ∷ [])
  unfolding cut_lines
  cut_snoc zero s = simp zero-mul
  cut_snoc (suc n) s =
      ap (λ (ls : List (List ℕ)). take (length_of y) s ∷ ls)
      (cut_snoc n (drop (length_of y) s)
      ∙ ap (λ (l : List ℕ). cut_lines y n (drop (length_of y) s) ++ (take (length_of y) l ∷ [])) (drop_line n s))

  -- whole lines fill their count of line lengths
  pub whole_length : (ls : List (List ℕ)) → Whole y ls → used_by ls ≡ length ls * length_of y
  whole_length [] h = omega (arith, zero-mul (length_of y))
  whole_length (l ∷ ls) h = simp (length-append, h.0, whole_length ls h.1, suc-mul) (omega arith)

  -- lines one after the other are cut into those lines
  cut_bytes : (ls : List (List ℕ)) (rest : List ℕ) → Whole y ls → cut_lines y (length ls) (bytes_of ls ++ rest) ≡ ls
  unfolding cut_lines
  cut_bytes [] rest h = refl
  cut_bytes (l ∷ ls) rest h =
      simp (
        append_assoc,
        take_at l (bytes_of ls ++ rest) (length_of y) h.0,
        drop_at l (bytes_of ls ++ rest) (length_of y) h.0,
        cut_bytes ls rest h.1,
      )

  pub used_cut : (ls : List (List ℕ)) (rest : List ℕ) → Whole y ls
      → cut_lines y (used_by ls / length_of y) (bytes_of ls ++ rest) ≡ ls
  used_cut ls rest h =
      let positive : 0 < length_of y = omega arith in
      simp (whole_length ls h, mul-div_cancel (length ls) positive) (cut_bytes ls rest h)

  -- lines cut from bytes that have so many are whole, and put together again before what was left they are those bytes
  cut_whole : (n : ℕ) (s : List ℕ) → n * length_of y ≤ length s → Whole y (cut_lines y n s)
  unfolding cut_lines
  cut_whole zero s h = tt
  cut_whole (suc n) s h =
      let g : length_of y + n * length_of y ≤ length s = omega (arith, suc-mul n (length_of y)) in
      (length-take-le (length_of y) s (omega arith), cut_whole n (drop (length_of y) s) (simp length-drop (omega arith)))

  cut_back : (n : ℕ) (s : List ℕ) → bytes_of (cut_lines y n s) ++ drop (n * length_of y) s ≡ s
  unfolding cut_lines
  cut_back zero s = simp zero-mul
  cut_back (suc n) s = simp (append_assoc, ← drop_line n s, cut_back n (drop (length_of y) s), take-append-drop)

  -- so the used part of a register is its lines, where the used length is whole lines inside the buffer
  pub record UsedPart (s : List ℕ) (used : ℕ) : Type 0 where
    pub whole : Whole y (cut_lines y (used / length_of y) s)
    pub size : used_by (cut_lines y (used / length_of y) s) ≡ used
    pub bytes : bytes_of (cut_lines y (used / length_of y) s) ++ drop used s ≡ s

  pub used_part : (s : List ℕ) (used : ℕ) → used ≤ length s → used % length_of y ≡ 0 → UsedPart s used
  used_part s used inside exact =
      let n : used / length_of y * length_of y ≡ used = omega (arith, div-add-mod' used (length_of y)) in
      let whole = cut_whole (used / length_of y) s (omega arith) in
      record {
        whole = whole;
        size =
            whole_length (cut_lines y (used / length_of y) s) whole
            ∙ ap (λ (k : ℕ). k * length_of y) (cut_count (used / length_of y) s) ∙ n;
        bytes =
            ap (λ (k : ℕ). bytes_of (cut_lines y (used / length_of y) s) ++ drop k s) (sym n) ∙ cut_back (used / length_of y) s;
      }

  -- and the used part by itself is cut into the same lines
  pub used_alone : (s : List ℕ) (used : ℕ) → used ≤ length s → used % length_of y ≡ 0
      → cut_lines y (length (take used s) / length_of y) (take used s) ≡ cut_lines y (used / length_of y) s
  used_alone s used inside exact =
      let ls = cut_lines y (used / length_of y) s in
      let part = used_part s used inside exact in
      let alone : take used s ≡ bytes_of ls =
      ap (take used) (sym part.bytes) ∙ take_at (bytes_of ls) (drop used s) used part.size in
      simp alone
      (ap (cut_lines y (length (bytes_of ls) / length_of y)) (sym (append-nil (bytes_of ls))) ∙ used_cut ls [] part.whole)
