-- Filing by code: a filing's answer and bytes by its refusals, and the lines of a text filed one after the other: what the lines
-- passed have left is the register that the fold leaves, and what is known of it stays known. Assumes nothing.
use Prim.Native.Nat.{ℕ, suc, ◌+◌, ◌-◌, ◌≤◌, ◌<◌}
use mathlib.Core.Bool.{false, cond}
use mathlib.Core.List.{List, [], ◌∷◌, ◌++◌, map, map-append, append-nil, append_assoc}
use mathlib.Core.Path.{◌≡◌, refl, sym, ◌∙◌, ap}
use native.Mathlib.Omega.{arith}
use lib.Dec.{leb, ltb}
use lib.ListN.{length, take, drop, length-append}
use lib.Seq.{drop-drop}
use borrow.Author.Tests.{ne_eqb, lt-ltb, le-ltb, le-leb, lt-leb}
use Rattle.split.specs.Answers.{Quote}
use Rattle.split.specs.Refusal.{refusal_of}
use Rattle.split.specs.Quote.{quote_of}
use Rattle.split.proofs.QuoteLaws.{quote_fits}
use Rattle.register.specs.Answers.{Filed, filed_as}
use Rattle.register.specs.declared.answers.FiledLines.{FiledLines}
use Rattle.std.specs.Prelude.{Result, Ok, Err, IsErrAnd}
use Rattle.std.proofs.lemmas.Result.{err_from_is_err_and}
use Rattle.refusals.specs.declared.Refusal.{Refusal}
use Rattle.refusals.specs.declared.Refusal.TheVariants.{BadRegister}
use Rattle.refusals.specs.Numbers.{number, refusal_number}
use Rattle.refusals.proofs.NumbersLaws.{number_positive}
use Rattle.register.specs.declared.answers.Fault.{Fault}
use Rattle.register.specs.declared.filing.Entered.{Entered}
use Rattle.register.specs.Line.{share_count, figures_of, figures_for, line_text, line_for}
use Rattle.register.specs.Layout.{Register, lent, line_length, used_lines}
use Rattle.register.specs.Check.{following, check_of}
use Rattle.register.specs.Steps.{runs}
use Rattle.register.specs.File.{Filing, filing, number_from, number_given, refusal_given, file_refusal, filed_answer, text_filed, over, grown, file_step, file_run}
use Rattle.register.specs.Text.{text_lines, text_filings, refusal_bytes, FiledText, FiledAll}
use Rattle.register.specs.Scan.{Scanned, scanned_as, ScannedAs, Known, entered_as}
use Rattle.register.proofs.LineLaws.{line_for-length}
use Rattle.register.proofs.StepsLaws.{runs_answer, runs_state, runs_count}
use Rattle.register.proofs.FileLaws.{answer_granted, answer_refused, answer_refusal, text_granted, text_refused, grown_none}
use Rattle.register.proofs.TextLaws.{lines_few}
use Rattle.register.proofs.Shown.{file_sound, step_sound}
use Rattle.register.proofs.Demands.{list_claim}

-- a quote has four shares
pub quote_whole : (q : Quote) (c : List ℕ) → q ≡ quote_of c → length q.shares ≡ share_count
quote_whole q c e = ap (λ (p : Quote). length p.shares) e ∙ (quote_fits c).four

-- what going along a register tells is known of it
pub scan_known : {r : Register} {k : Scanned} → ScannedAs (check_of r) (used_lines r) k → Known r k
scan_known {k = k} s = record { checked = ap (λ x. x.refusal) s.checked; numbered = s.numbered }

-- what a filing answers and leaves
abbrev pub FiledAs : Register → Filing → Filed → List ℕ → Type 0
FiledAs r f answer bytes = (answer ≡ (file_step r f).answer) × (bytes ≡ (file_step r f).state.bytes)

module _ (r : Register) (f : Filing) where
  -- under a refusal the register stays
  pub state_stays : (file_refusal r f ≡ 0 → ⊥) → (file_step r f).state ≡ r
  unfolding file_step
  state_stays some = ap (grown r) (text_refused r f some) ∙ grown_none r

  pub step_refused : (x : ℕ) → file_refusal r f ≡ x → (x ≡ 0 → ⊥) → FiledAs r f (record { refusal = x; used = 0 }) r.bytes
  unfolding file_step
  step_refused x e some = (
    sym (ap (λ (n : ℕ). filed_answer n (grown r (text_filed r f)).used) e ∙ answer_refused x _ some),
    ap (λ (q : Register). q.bytes) (sym (state_stays (λ z. some (sym e ∙ z)))),
  )

  pub case_refused : (x : ℕ) → x ≡ refusal_of f.line → (x ≡ 0 → ⊥) → FiledAs r f (record { refusal = x; used = 0 }) r.bytes
  unfolding file_refusal refusal_given
  case_refused x e some = step_refused x (simp (← e, ne_eqb x 0 some)) some

  -- with none the line is written behind the used part
  step_granted : file_refusal r f ≡ 0
      → FiledAs r f (record { refusal = 0; used = r.used + line_length })
      (take r.used r.bytes ++ (line_for (number_given (used_lines r) f) f.line ++ drop (r.used + line_length) r.bytes))
  unfolding file_step
  step_granted none =
      let l = line_for (number_given (used_lines r) f) f.line in
      let text = text_granted r f none in
      let long = line_for-length (number_given (used_lines r) f) f.line in (
        ap (λ (n : ℕ). record { refusal = 0; used = r.used + n }) (sym (ap length text ∙ long))
            ∙ sym (ap (λ (n : ℕ). filed_answer n (grown r (text_filed r f)).used) none ∙ answer_granted 0 _ refl),
        ap (λ (n : ℕ). take r.used r.bytes ++ (l ++ drop (r.used + n) r.bytes)) (sym long)
            ∙ ap (λ (x : List ℕ). over r.used x r.bytes) (sym text),
      )

  module _ (k : Scanned) (known : Known r k) (accepted : refusal_of f.line ≡ 0) where
    pub state_refused : (k.refusal ≡ 0 → ⊥) → FiledAs r f (record { refusal = 11; used = 0 }) r.bytes
    unfolding file_refusal refusal_given
    state_refused bad =
        step_refused 11 (simp (accepted, ne_eqb (check_of r).refusal 0 (λ z. bad (known.checked ∙ z)))) (λ e. omega arith)

    module _ (sound : k.refusal ≡ 0) where
      by_state : file_refusal r f ≡ cond (ltb (length r.bytes - r.used) line_length) 12 (cond (leb 4294967296 (number_from k.next f)) 13 0)
      unfolding file_refusal refusal_given number_given
      by_state = simp (accepted, sym known.checked ∙ sound, known.numbered sound)

      pub space_refused : length r.bytes - r.used < line_length → FiledAs r f (record { refusal = 12; used = 0 }) r.bytes
      space_refused h =
          step_refused 12 (by_state ∙ simp (lt-ltb (length r.bytes - r.used) line_length h)) (λ e. omega arith)

      module _ (space : line_length ≤ length r.bytes - r.used) where
        room : ltb (length r.bytes - r.used) line_length ≡ false
        room = le-ltb (length r.bytes - r.used) line_length space

        pub last_refused : (number : ℕ) → number ≡ number_from k.next f → 4294967296 ≤ number
            → FiledAs r f (record { refusal = 13; used = 0 }) r.bytes
        last_refused number given h =
            step_refused 13 (by_state ∙ simp (room, ← given, le-leb 4294967296 number h)) (λ e. omega arith)

        -- the part behind the used length is written as the line
        pub line_filed : (number : ℕ) (q : Quote) (line : List ℕ) → number ≡ number_from k.next f → number < 4294967296
            → q ≡ quote_of f.line → line ≡ line_text (figures_of number q)
            → FiledAs r f (record { refusal = 0; used = r.used + line_length })
            (take r.used r.bytes ++ (line ++ drop (r.used + line_length - r.used) (drop r.used r.bytes)))
        unfolding number_given line_for figures_for
        line_filed number q line given h quoted written =
            let granted = step_granted (by_state ∙ simp (room, ← given, lt-leb 4294967296 number h)) in
            let past : r.used + (r.used + line_length - r.used) ≡ r.used + line_length = omega arith in
            (granted.0, simp (drop-drop, past, written, quoted, given, known.numbered sound) granted.1)

-- a refusal of the case, and that of the register, in the code's answers
pub line_refused : (r : Register) (f : Filing) (x : Refusal) → number x ≡ refusal_of f.line
    → FiledAs r f (record { refusal = number x; used = 0 }) r.bytes
line_refused r f x e = case_refused r f (number x) e (λ z. omega (arith, number_positive x))

pub register_refused : (r : Register) (f : Filing) (fault : Fault) → Known r (scanned_as (Err fault)) → refusal_of f.line ≡ 0
    → FiledAs r f (record { refusal = 11; used = 0 }) r.bytes
register_refused r f fault known accepted = state_refused r f (scanned_as (Err fault)) known accepted (λ z. omega arith)

pub scan_refused : (r : Register) (f : Filing) (fault : Fault) (answer : Result ℕ Refusal) → IsErrAnd answer (λ e. e ≡ BadRegister)
    → ScannedAs (check_of r) (used_lines r) (scanned_as (Err fault)) → refusal_of f.line ≡ 0
    → FiledAs r f (filed_as answer) r.bytes
scan_refused r f fault answer refused scanned accepted =
    let e = err_from_is_err_and answer refused in
    rw (e.1, e.2) (register_refused r f fault (scan_known scanned) accepted)

pub same_refusal : (x : Result Entered Refusal) → refusal_number x ≡ (entered_as x).refusal
same_refusal (Ok entered) = refl
same_refusal (Err r) = refl

-- the used length and what is known of the register after an answer
module _ (r : Register) (f : Filing) (k : Scanned) (known : Known r k) (a : Filed) (answered : a ≡ (file_step r f).answer) where
  said : a.refusal ≡ file_refusal r f
  unfolding file_step
  said = ap (λ (x : Filed). x.refusal) answered ∙ answer_refusal (file_refusal r f) _

  pub granted_next : (used : ℕ) (k' : Scanned) → a.refusal ≡ 0 → used ≡ a.used → k'.refusal ≡ 0
      → k'.next ≡ following (number_from k.next f) → (used ≡ (file_step r f).state.used) × Known (file_step r f).state k'
  unfolding file_step number_given
  granted_next used k' h moved same more =
      let none : file_refusal r f ≡ 0 = sym said ∙ h in
      let after = step_sound r f none in
      let sound = known.checked ∙ file_sound r f none in (
        moved ∙ ap (λ (x : Filed). x.used) (answered ∙ answer_granted (file_refusal r f) _ none),
        record {
          checked = same ∙ sym after.checked;
          numbered = λ _. more ∙ ap (λ (n : ℕ). following (number_from n f)) (known.numbered sound) ∙ sym after.next;
        },
      )

  pub refused_next : (used : ℕ) (k' : Scanned) → (a.refusal ≡ 0 → ⊥) → used ≡ r.used → k' ≡ k
      → (used ≡ (file_step r f).state.used) × Known (file_step r f).state k'
  refused_next used k' h stays same =
      let state = state_stays r f (λ e. h (said ∙ e)) in
      rw (state, same) (stays, known)

-- What filing the lines of a text keeps: the lines passed are filed, the others are left, and what is known of the register is known
-- of what they left.
pub record Passed (r₀ : Register) (first : ℕ) (text old bytes refusals : List ℕ) (k : Scanned) (used n : ℕ) (left : List (List ℕ)) : Type 0 where
  pub done : List (List ℕ)
  pub lines : text_lines text ≡ done ++ left
  pub state : lent bytes used ≡ (file_run r₀ (map (filing first) done)).state
  pub known : Known (lent bytes used) k
  pub given : refusals ≡ refusal_bytes (file_run r₀ (map (filing first) done)).answer old
  pub count : n ≡ length (file_run r₀ (map (filing first) done)).answer

pub passed_none : (r : Register) (first : ℕ) (text old : List ℕ) (k : Scanned) → Known r k
    → (left : List (List ℕ)) → left ≡ text_lines text → Passed r first text old r.bytes old k r.used 0 left
unfolding runs refusal_bytes
passed_none r first text old k known left all =
    record { done = []; lines = sym all; state = refl; known = known; given = refl; count = refl }

map_count : (first : ℕ) (ls : List (List ℕ)) → length (map (filing first) ls) ≡ length ls
map_count first [] = refl
map_count first (l ∷ ls) = ap suc (map_count first ls)

module _ {r₀ : Register} {first : ℕ} {text old bytes refusals : List ℕ} {k : Scanned} {used n : ℕ} {left : List (List ℕ)}
    (p : Passed r₀ first text old bytes refusals k used n left) where
  counted : n ≡ length p.done
  counted = p.count ∙ runs_count file_step r₀ (map (filing first) p.done) ∙ map_count first p.done

  -- as many lines as are passed and left, so that the text has a character for each
  pub passed_few : n + length left ≤ length text
  passed_few = omega (arith, counted, ap length p.lines ∙ length-append p.done left, lines_few text)

  pub passed_all : left ≡ [] → FiledText r₀ first text old bytes refusals (record { used = used; lines = n })
  passed_all none =
      let all : text_lines text ≡ p.done =
      p.lines ∙ ap (λ (ls : List (List ℕ)). p.done ++ ls) none ∙ append-nil p.done
      in
      let lines : n ≡ length (text_lines text) = counted ∙ ap length (sym all)
      in record {
        answered =
            λ i. record {
              used = (ap (λ (x : Register). x.used) p.state ∙ ap (λ (ls : List (List ℕ)). (file_run r₀ (map (filing first) ls)).state.used) (sym all)) i;
              lines = lines i;
            };
        bytes = rw all (ap (λ (x : Register). x.bytes) p.state);
        given = rw all p.given;
      }

  -- the first of the lines left is filed
  pub passed_next : (line : List ℕ) (left' : List (List ℕ)) → left ≡ line ∷ left'
      → (bytes' refusals' : List ℕ) (k' : Scanned) (used' n' : ℕ)
      → bytes' ≡ (file_step (lent bytes used) (filing first line)).state.bytes
      → (used' ≡ (file_step (lent bytes used) (filing first line)).state.used) × Known (file_step (lent bytes used) (filing first line)).state k'
      → refusals' ≡ refusal_bytes ((file_run r₀ (map (filing first) p.done)).answer ++ ((file_step (lent bytes used) (filing first line)).answer ∷ [])) old
      → n' ≡ n + 1 → Passed r₀ first text old bytes' refusals' k' used' n' left'
  passed_next line left' cut bytes' refusals' k' used' n' written after answered more =
      let fs = map (filing first) p.done in
      let on : map (filing first) (p.done ++ (line ∷ [])) ≡ fs ++ (filing first line ∷ []) = map-append (filing first) p.done (line ∷ []) in
      let here : lent bytes' used' ≡ (file_step (lent bytes used) (filing first line)).state =
      λ i. record { bytes = written i; used = after.0 i }
      in
      let answers : (file_run r₀ (map (filing first) (p.done ++ (line ∷ [])))).answer
      ≡ (file_run r₀ fs).answer ++ ((file_step (lent bytes used) (filing first line)).answer ∷ []) =
      ap (λ (es : List Filing). (file_run r₀ es).answer) on ∙ runs_answer file_step r₀ fs (filing first line)
      ∙ ap (λ (x : Register). (file_run r₀ fs).answer ++ ((file_step x (filing first line)).answer ∷ [])) (sym p.state)
      in record {
        done = p.done ++ (line ∷ []);
        lines =
            p.lines ∙ ap (λ (ls : List (List ℕ)). p.done ++ ls) cut
            ∙ sym (append_assoc p.done (line ∷ []) left');
        state =
            here ∙ ap (λ (x : Register). (file_step x (filing first line)).state) p.state
            ∙ sym (ap (λ (es : List Filing). (file_run r₀ es).state) on ∙ runs_state file_step r₀ fs (filing first line));
        known = rw here after.1;
        given = answered ∙ ap (λ (l : List Filed). refusal_bytes l old) (sym answers);
        count = more ∙ rw answers (simp length-append (omega (arith, p.count)));
      }

-- a register filled from nothing keeps the list claim
pub filed_all : (s : List ℕ) (first : ℕ) (text old after refusals : List ℕ) (a : FiledLines) → FiledText (lent s 0) first text old after refusals a
    → FiledAll s first text old after refusals a.used
filed_all s first text old after refusals a f =
    let left : lent after a.used ≡ (file_run (lent s 0) (text_filings first text)).state =
    λ i. record { bytes = f.bytes i; used = ap (λ (x : FiledLines). x.used) f.answered i }
    in
    let all = list_claim s (text_filings first text) in
    record { claim = rw left all; given = f.given }
