-- Laws of reading a case line: only lengths of one to four pensions are right, with or without the amount used, and the refusal
-- of any line is that of its characters, of its length, or of its case. Assumes nothing.
use Prim.Native.Nat.{ℕ, ◌+◌, ◌≤◌, ◌<◌}
use mathlib.Core.Bool.{Bool, true, false, cond, not, ◌&&◌, ◌||◌, false≢true}
use mathlib.Core.List.{List, [], ◌∷◌}
use mathlib.Core.Path.{◌≡◌, refl, ◌∙◌, ap}
use native.Mathlib.Omega.{arith}
use lib.Dec.{leb, ltb, eqb}
use lib.ListN.{length}
use borrow.Author.Tests.{lt-leb, leb-false, le-ltb, ltb-false, eqb-true, not-false}
use Rattle.calendar.specs.Tests.{within, lowest}
use Rattle.calendar.proofs.TestsLaws.{and_left, and_right, or_left, or_right, not_true_false, within_bounds}
use Rattle.split.specs.declared.case.Head.{Head}
use Rattle.split.specs.Frame.{bad_character}
use Rattle.split.specs.Case.{head_of, pensions_of, case_length, allowance_used_length, longest_line}
use Rattle.split.specs.Bytes.{block_length}
use Rattle.split.specs.Refusal.{bad_length, line_refusal, conditions, refusal_of}

-- what a right length has: one to four pensions, and behind them nothing or the whole field
pub record RightLength (characters n : ℕ) : Type 0 where
  pub counted : (1 ≤ n) × (n ≤ 4)
  pub long : case_length n ≤ characters
  pub short : characters ≤ case_length n + allowance_used_length
  pub field : case_length n < characters → case_length n + allowance_used_length ≤ characters

listed : (characters n : ℕ)
    → (within 1 4 n && (eqb characters (case_length n) || eqb characters (case_length n + allowance_used_length))) ≡ true → RightLength characters n
listed characters n t = go (eqb characters (case_length n)) refl (and_right (within 1 4 n) _ t)
  where
    count : (1 ≤ n) × (n ≤ 4)
    count = within_bounds 1 4 n (and_left (within 1 4 n) _ t)

    go : (ends : Bool) → eqb characters (case_length n) ≡ ends → (ends || eqb characters (case_length n + allowance_used_length)) ≡ true
        → RightLength characters n
    go true e right =
        let same : characters ≡ case_length n = eqb-true characters (case_length n) e in
        record { counted = count; long = omega arith; short = omega arith; field = λ h. absurd (omega arith) }
    go false e right =
        let same : characters ≡ case_length n + allowance_used_length = eqb-true characters (case_length n + allowance_used_length) right in
        record { counted = count; long = omega arith; short = omega arith; field = λ h. omega arith }

pub length_listed : (characters n : ℕ) → bad_length characters n ≡ false → RightLength characters n
unfolding bad_length
length_listed characters n e = listed characters n (not-false _ e)

-- so none is as short as a block, or longer than the longest
module _ (characters : ℕ) where
  pub length_unlisted : (leb characters block_length || ltb longest_line characters) ≡ true → (n : ℕ) → bad_length characters n ≡ true
  unfolding bad_length
  length_unlisted far n = ap not (not_true_false _ (λ t.
      let l = listed characters n t in
      false≢true (simp (lt-leb characters block_length (omega arith), le-ltb longest_line characters (omega arith)) at far)))

  pub length_between : (leb characters block_length || ltb longest_line characters) ≡ false
      → (block_length < characters) × (characters ≤ longest_line)
  length_between near =
      (leb-false _ _ (or_left (leb characters block_length) _ near), ltb-false _ _ (or_right (leb characters block_length) _ near))

-- the refusal of a line is that of its characters or its length, and else that of its case
line_then_case : (s : List ℕ)
    → refusal_of s ≡ cond (eqb (line_refusal s) 0) (lowest 3 (conditions (head_of s) (pensions_of s))) (line_refusal s)
unfolding refusal_of line_refusal
line_then_case s = go (bad_character s) (bad_length (length s) (head_of s).count) (conditions (head_of s) (pensions_of s))
  where
    go : (a b : Bool) (cs : List Bool)
        → lowest 1 (a ∷ b ∷ cs) ≡ cond (eqb (lowest 1 (a ∷ b ∷ [])) 0) (lowest 3 cs) (lowest 1 (a ∷ b ∷ []))
    go true b cs = refl
    go false true cs = refl
    go false false cs = refl

-- a line of which no case can be read: a bad character, or digits of a wrong length
pub refused_character : (s : List ℕ) → bad_character s ≡ true → refusal_of s ≡ 1
unfolding line_refusal
refused_character s bad = line_then_case s ∙ simp (line_refusal, bad)

module _ (s : List ℕ) (h : Head) (digits : bad_character s ≡ false) (read : h ≡ head_of s) where
  pub refused_length : bad_length (length s) h.count ≡ true → refusal_of s ≡ 2
  unfolding line_refusal
  refused_length bad = line_then_case s ∙ simp (line_refusal, digits, rw read at bad)

  -- and any other is refused as its case
  pub refused_case : bad_length (length s) h.count ≡ false → refusal_of s ≡ lowest 3 (conditions (head_of s) (pensions_of s))
  unfolding line_refusal
  refused_case measured = line_then_case s ∙ simp (line_refusal, digits, rw read at measured)
