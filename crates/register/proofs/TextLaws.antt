-- A text of case lines: its first line is what stands before its first newline, or all; and the refusals of answers over the bytes
-- that were there, with one more answer. By induction on the characters and on the answers. Assumes nothing.
use Prim.Native.Nat.{ℕ, zero, suc, ◌+◌, ◌≤◌, ◌<◌}
use mathlib.Core.Bool.{false}
use mathlib.Core.List.{List, [], ◌∷◌, ◌++◌, append-nil, append_assoc}
use mathlib.Core.Path.{◌≡◌, refl, sym, ◌∙◌, ap}
use native.Mathlib.Omega.{arith}
use lib.Dec.{eqb}
use lib.ListN.{length, get_or, take, drop, set, length-append, drop_of_length-le}
use Rattle.std.proofs.lemmas.Bool.{eqb-true, eq-eqb, ne_eqb}
use Rattle.std.proofs.lemmas.List.{take_all}
use Rattle.memchr.specs.Find.{Nowhere, NoneBefore, Passes, is_byte}
use Rattle.register.specs.Answers.{Filed}
use Rattle.register.specs.Text.{lines_with, text_lines, refusal_bytes}

-- a run without a newline and what ends it are the first line
lines_cut : (before xs : List ℕ) (k : ℕ) → 0 < length before + length xs → k ≤ length xs
    → ((j : ℕ) → j < k → eqb (get_or xs j 0) 10 ≡ false) → (k < length xs → get_or xs k 0 ≡ 10)
    → lines_with before xs ≡ (before ++ take k xs) ∷ lines_with [] (drop (suc k) xs)
unfolding lines_with
lines_cut [] [] k some inside unbroken ended = absurd (omega arith)
lines_cut (b ∷ before) [] zero some inside unbroken ended = simp append-nil
lines_cut (b ∷ before) [] (suc k) some inside unbroken ended = absurd (omega arith)
lines_cut before (x ∷ xs) zero some inside unbroken ended = simp (ended (omega arith), append-nil)
lines_cut before (x ∷ xs) (suc k) some inside unbroken ended =
    simp (unbroken 0 (omega arith))
    (lines_cut (before ++ (x ∷ [])) xs k (simp length-append (omega arith)) (omega arith)
    (λ j h. unbroken (suc j) (omega arith)) (λ h. ended (omega arith))
    ∙ simp append_assoc)

-- a text without characters has no line
pub lines_none : (text : List ℕ) → length text ≡ 0 → text_lines text ≡ []
unfolding text_lines lines_with
lines_none [] h = refl
lines_none (c ∷ cs) h = absurd (omega (arith, h))

-- what stands before the first newline is the first line
pub lines_first : (text : List ℕ) (end : ℕ) → NoneBefore (Passes (is_byte 10) text) 0 (length text) end → Passes (is_byte 10) text end
    → text_lines text ≡ take end text ∷ text_lines (drop (end + 1) text)
unfolding text_lines
lines_first text end found newline =
    let past : suc end ≡ end + 1 = omega arith in
    lines_cut [] text end (omega (arith, found.high)) (omega (arith, found.high))
    (λ j h. ne_eqb _ 10 (λ z. found.before j (omega arith) h (eq-eqb _ _ z))) (λ g. eqb-true _ _ newline) ∙ simp past

-- a text without a newline is one line
pub lines_last : (text : List ℕ) → 0 < length text → Nowhere (Passes (is_byte 10) text) 0 (length text)
    → text_lines text ≡ text ∷ text_lines []
unfolding text_lines
lines_last text some none =
    lines_cut [] text (length text) (omega (arith, some)) (omega arith)
    (λ j h. ne_eqb _ 10 (λ z. none j (omega arith) h (eq-eqb _ _ z))) (λ g. absurd (omega (arith, g)))
    ∙ simp (take_all (length text) text (omega arith), drop_of_length-le text {i = suc (length text)} (omega arith))

-- behind the characters before it a text has at most a line for each character
lines_with_few : (before text : List ℕ) → length (lines_with before text) ≤ length before + length text
unfolding lines_with
lines_with_few [] [] = omega arith
lines_with_few (b ∷ before) [] = omega arith
lines_with_few before (c ∷ cs) = grind (arith, length-append, lines_with_few [] cs, lines_with_few (before ++ (c ∷ [])) cs)

pub lines_few : (text : List ℕ) → length (text_lines text) ≤ length text
unfolding text_lines
lines_few text = omega (arith, lines_with_few [] text)

-- one more refusal, where there is room and where there is none
refusals_more : (answers : List Filed) (a : Filed) (old : List ℕ) → length answers < length old
    → refusal_bytes (answers ++ (a ∷ [])) old ≡ set (refusal_bytes answers old) (length answers) a.refusal
unfolding refusal_bytes
refusals_more answers a [] h = absurd (omega arith)
refusals_more [] a (o ∷ old) h = refl
refusals_more (b ∷ answers) a (o ∷ old) h = ap (λ (l : List ℕ). b.refusal ∷ l) (refusals_more answers a old (omega arith))

refusals_full : (answers : List Filed) (a : Filed) (old : List ℕ) → length old ≤ length answers → refusal_bytes (answers ++ (a ∷ [])) old ≡ refusal_bytes answers old
unfolding refusal_bytes
refusals_full [] a [] h = refl
refusals_full [] a (o ∷ old) h = absurd (omega arith)
refusals_full (b ∷ answers) a [] h = refl
refusals_full (b ∷ answers) a (o ∷ old) h = ap (λ (l : List ℕ). b.refusal ∷ l) (refusals_full answers a old (omega arith))

refusals_length : (answers : List Filed) (old : List ℕ) → length (refusal_bytes answers old) ≡ length old
unfolding refusal_bytes
refusals_length [] old = refl
refusals_length (a ∷ answers) [] = refl
refusals_length (a ∷ answers) (o ∷ old) = ap suc (refusals_length answers old)

-- the refusals so far in a buffer r: one more, where there is room and where there is none
module _ (answers : List Filed) (old r : List ℕ) (so_far : r ≡ refusal_bytes answers old) where
  pub refusals_size : length r ≡ length old
  refusals_size = ap length so_far ∙ refusals_length answers old

  pub refusals_next : (a : Filed) (n x : ℕ) (r' : List ℕ) → n ≡ length answers → x ≡ a.refusal → n < length r → r' ≡ set r n x
      → r' ≡ refusal_bytes (answers ++ (a ∷ [])) old
  refusals_next a n x r' count said h stored =
      rw (stored, said, so_far, count) (sym (refusals_more answers a old (omega (arith, refusals_size))))

  pub refusals_past : (a : Filed) (n : ℕ) (r' : List ℕ) → n ≡ length answers → length r ≤ n → r' ≡ r
      → r' ≡ refusal_bytes (answers ++ (a ∷ [])) old
  refusals_past a n r' count h same = same ∙ so_far ∙ sym (refusals_full answers a old (omega (arith, refusals_size)))
