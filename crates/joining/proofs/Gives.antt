-- Joined with itself a register gives itself, and joined with an empty one on either side too: by the arrangement of the two, in
-- which all lines are common, or none. Assumes nothing.
use Prim.Native.Nat.{ℕ, ◌-◌, min}
use mathlib.Core.Bool.{false}
use mathlib.Core.List.{List, [], ◌++◌, append-nil}
use mathlib.Core.Path.{◌≡◌, refl, sym, ◌∙◌, ap}
use native.Mathlib.Nat.{zero-add}
use native.Mathlib.Omega.{arith}
use lib.ListN.{length, take, drop}
use lib.Seq.{drop-length}
use Rattle.calendar.proofs.TestsLaws.{by_zero}
use Rattle.register.specs.Answers.{Checked}
use Rattle.register.specs.Layout.{Register, lent, used_lines, bytes_of}
use Rattle.register.specs.Check.{check_lines_by, check_of}
use Rattle.register.specs.Ledger.{empty_ledger}
use Rattle.register.specs.Scan.{SoundLines}
use Rattle.register.proofs.LedgerLaws.{held_empty}
use Rattle.register.proofs.Shown.{shown_lines, shown_check}
use Rattle.joining.specs.Join.{first_number, joined_lines, not_joinable}
use Rattle.joining.specs.Claims.{JoinGives}
use Rattle.joining.specs.Parts.{lines_before}
use Rattle.joining.proofs.JoinLaws.{too_short, granted}
use Rattle.joining.proofs.Arranged.{alike_joins, arranged}
use Rattle.joining.proofs.Swapped.{join_swapped}
use Rattle.joining.proofs.Texts.{sound_register, used_text}

-- two sound registers whose lines joined are those of a third
module _ (first second r : Register) (target : List ℕ) (sound : (check_of first).refusal ≡ 0) (sound₂ : (check_of second).refusal ≡ 0)
    (sound₃ : (check_of r).refusal ≡ 0) (agree : not_joinable (used_lines first) (used_lines second) ≡ false)
    (same : joined_lines (used_lines first) (used_lines second) ≡ used_lines r) where
  text : bytes_of (joined_lines (used_lines first) (used_lines second)) ≡ take r.used r.bytes
  text = ap bytes_of same ∙ used_text r.bytes r.used (sound_register r.bytes r.used sound₃)

  size : length (bytes_of (joined_lines (used_lines first) (used_lines second))) ≡ r.used
  size = ap (λ (ls : List (List ℕ)). length (bytes_of ls)) same ∙ (sound_register r.bytes r.used sound₃).part.size

  gives : JoinGives first second target r
  gives = record {
    fits = λ h.
        granted first second target sound sound₂ agree (omega (arith, size))
        ∙ (λ i. record {
          answer = record { refusal = 0; used = size i };
          state = text i ++ drop ((zero-add (length (bytes_of (joined_lines (used_lines first) (used_lines second)))) ∙ size) i) target;
        });
    short = λ h. too_short first second target sound sound₂ agree (omega (arith, size));
  }

-- lines joined with themselves
before_self : (ls : List (List ℕ)) → lines_before ls ls ≡ 0
unfolding lines_before
before_self ls = by_zero (λ x. x ≡ 0) (first_number ls) 0 (first_number ls - first_number ls) (λ e. refl) (λ e. omega arith)

-- and no lines joined with some
joined_empty : (ls : List (List ℕ)) → SoundLines ls → (not_joinable [] ls ≡ false) × (joined_lines [] ls ≡ ls)
unfolding lines_before check_lines_by
joined_empty ls lines =
    let common = min (0 - lines_before [] ls) (length ls) in
    let none : common ≡ 0 = omega arith in
    let alike : take common (drop (lines_before [] ls) []) ≡ take common ls =
    ap (λ (n : ℕ). take n []) none ∙ sym (ap (λ (n : ℕ). take n ls) none)
    in (
      alike_joins [] ls refl lines (omega arith) (omega arith) alike,
      arranged [] ls refl lines (omega arith) (omega arith) alike ∙ ap (λ (n : ℕ). drop n ls) none,
    )

module _ (r : Register) (sound : (check_of r).refusal ≡ 0) (target : List ℕ) where
  abbrev ls : List (List ℕ)
  ls = used_lines r

  lines : SoundLines ls
  lines = (sound_register r.bytes r.used sound).lines

  pub with_itself : JoinGives r r target r
  with_itself =
      let none = before_self ls in
      let common = min (length ls - lines_before ls ls) (length ls) in
      let all : common ≡ length ls = omega arith in
      let alike : take common (drop (lines_before ls ls) ls) ≡ take common ls = ap (λ (n : ℕ). take common (drop n ls)) none in
      gives r r r target sound sound sound (alike_joins ls ls lines lines (omega arith) (omega arith) alike)
      (arranged ls ls lines lines (omega arith) (omega arith) alike
      ∙ ap (λ (n : ℕ). ls ++ drop n ls) all ∙ ap (λ (ms : List (List ℕ)). ls ++ ms) (drop-length ls) ∙ append-nil ls)

  -- an empty register, whatever its bytes
  module _ (s : List ℕ) where
    empty_sound : (check_of (lent s 0)).refusal ≡ 0
    unfolding check_lines_by
    empty_sound = ap (λ (k : Checked). k.refusal) (shown_check s empty_ledger (held_empty (length s)))

    empty_lines : used_lines (lent s 0) ≡ []
    empty_lines = shown_lines s empty_ledger (held_empty (length s))

    pub empty_first : JoinGives (lent s 0) r target r
    empty_first =
        let n = joined_empty ls lines in
        gives (lent s 0) r r target empty_sound sound sound (ap (λ (x : List (List ℕ)). not_joinable x ls) empty_lines ∙ n.0)
        (ap (λ (x : List (List ℕ)). joined_lines x ls) empty_lines ∙ n.1)

    pub empty_second : JoinGives r (lent s 0) target r
    empty_second = record {
      fits = λ h. join_swapped r (lent s 0) target ∙ empty_first.fits h;
      short = λ h. join_swapped r (lent s 0) target ∙ empty_first.short h;
    }
