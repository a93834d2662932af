-- Laws of what is kept of a line's beginning. It has a bad character exactly where the beginning has one, and it is longer than
-- any case line where the beginning is; so the refusal of both is 1, or both have 2, however the line goes on. Assumes nothing.
use Prim.Native.Nat.{ℕ, ◌+◌, ◌-◌, ◌≤◌, ◌<◌, min}
use mathlib.Core.Bool.{Bool, true, false, cond, ◌||◌, or-true, or-false, false≢true}
use mathlib.Core.List.{List, [], ◌∷◌, ◌++◌, append_assoc}
use mathlib.Core.Path.{◌≡◌, refl, sym, ◌∙◌, ap}
use native.Mathlib.Decide.{dec_lt}
use native.Mathlib.Omega.{arith}
use lib.ListN.{length, take, drop, set, take-append-drop, length-append, length-take, length-drop, length-set, drop_of_length-le}
use lib.Seq.{take_at, take_all, drop-drop}
use borrow.Author.Tests.{lt-ltb}
use Rattle.std.specs.List.{copy_within}
use Rattle.std.proofs.lemmas.List.{take_min, drop_min, set-append_left}
use Rattle.calendar.proofs.TestsLaws.{any_append}
use Rattle.split.specs.Frame.{is_no_digit, bad_character, hex_value}
use Rattle.split.specs.Case.{head_of, longest_line}
use Rattle.split.specs.Refusal.{bad_length}
use Rattle.split.specs.Quote.{refused_quote, quote_of}
use Rattle.split.specs.Overlong.{kept_length, kept_line, QuotedAs}
use Rattle.split.proofs.ReadingLaws.{length_unlisted, refused_character, refused_length}
use Rattle.split.proofs.QuoteLaws.{quote_refused}

bad_append : (s t : List ℕ) → bad_character (s ++ t) ≡ (bad_character s || bad_character t)
unfolding bad_character
bad_append s t = any_append is_no_digit s t

-- no character is bad of none
pub bad_some : (s : List ℕ) → bad_character s ≡ true → 0 < length s
unfolding bad_character
bad_some [] e = absurd (false≢true e)
bad_some (c ∷ s) e = omega arith

pub bad_part : (n k : ℕ) (s : List ℕ) → bad_character (take n (drop k s)) ≡ true → 0 < length s
bad_part n k s e = omega (arith, simp (length-take, length-drop) at (bad_some (take n (drop k s)) e))

-- a line of digits, and one that begins with a bad character
bad_first : (s : List ℕ) → 0 < length s → bad_character (set s 0 0) ≡ true
unfolding bad_character is_no_digit hex_value
bad_first [] h = absurd (omega arith)
bad_first (c ∷ s) h = refl

-- what is kept of a beginning has a bad character where the beginning has
kept_bad : (s : List ℕ) → bad_character (kept_line s) ≡ bad_character s
unfolding kept_line
kept_bad s = go (bad_character (drop kept_length s)) refl
  where
    parts : bad_character s ≡ (bad_character (take kept_length s) || bad_character (drop kept_length s))
    parts = ap bad_character (sym (take-append-drop kept_length s)) ∙ bad_append (take kept_length s) (drop kept_length s)

    go : (b : Bool) → bad_character (drop kept_length s) ≡ b
        → bad_character (cond b (set (take kept_length s) 0 0) (take kept_length s)) ≡ bad_character s
    go true e = bad_first (take kept_length s) (simp length-take (omega (arith, length-drop kept_length s, bad_some _ e))) ∙ sym (parts ∙ simp (e, or-true))
    go false e = sym (parts ∙ simp (e, or-false))

-- and its length where that is no longer than is kept
length_kept : (s : List ℕ) → length (kept_line s) ≡ min kept_length (length s)
unfolding kept_line
length_kept s = go (bad_character (drop kept_length s))
  where
    go : (b : Bool) → length (cond b (set (take kept_length s) 0 0) (take kept_length s)) ≡ min kept_length (length s)
    go true = simp (length-set, length-take)
    go false = simp length-take

pub kept_at_most : (s : List ℕ) → length (kept_line s) ≤ kept_length
kept_at_most s = omega (arith, length_kept s)

-- a beginning that is short enough is kept
kept_short : (s : List ℕ) → length s ≤ kept_length → kept_line s ≡ s
unfolding kept_line bad_character
kept_short s h = simp (drop_of_length-le s h, take_all kept_length s h)

-- too long for a case: refused by its characters, else by its length
overlong : (s t : List ℕ) → longest_line < length s → longest_line < length t → bad_character s ≡ bad_character t → quote_of s ≡ quote_of t
overlong s t p q same = go (bad_character t) refl
  where
    unlisted : (u : List ℕ) → longest_line < length u → bad_length (length u) (head_of u).count ≡ true
    unlisted u h = length_unlisted (length u) (simp (lt-ltb longest_line (length u) h, or-true)) (head_of u).count

    by_length : (u : List ℕ) → longest_line < length u → bad_character u ≡ false → refused_quote 2 ≡ quote_of u
    by_length u h e = quote_refused u 2 (refused_quote 2) (λ z. omega arith) (refused_length u (head_of u) e refl (unlisted u h)) refl

    by_character : (u : List ℕ) → bad_character u ≡ true → refused_quote 1 ≡ quote_of u
    by_character u e = quote_refused u 1 (refused_quote 1) (λ z. omega arith) (refused_character u e) refl

    go : (b : Bool) → bad_character t ≡ b → quote_of s ≡ quote_of t
    go true e = sym (by_character s (same ∙ e)) ∙ by_character t e
    go false e = sym (by_length s p (same ∙ e)) ∙ by_length t q e

pub kept_quoted : (s : List ℕ) → QuotedAs (kept_line s) s
kept_quoted s more =
    elim (dec_lt kept_length (length s)) [
      | no h ↦ rw (kept_short s (omega arith))
      | yes h ↦
          overlong (kept_line s ++ more) (s ++ more) (simp (length-append, length_kept) (omega arith)) (simp length-append (omega arith))
          (bad_append (kept_line s) more ∙ rw (kept_bad s) (sym (bad_append s more)))
    ]

-- what is kept of a kept beginning and what follows it serves the whole line too
pub kept_again : (s next : List ℕ) → QuotedAs (kept_line (kept_line s ++ next)) (s ++ next)
kept_again s next more =
    kept_quoted (kept_line s ++ next) more
    ∙ rw (append_assoc (kept_line s) next more, append_assoc s next more) (kept_quoted s (next ++ more))

-- so what stands at a text's start is quoted as the beginning that it was kept of
pub kept_stands : (s rest text : List ℕ) (count : ℕ) → count ≡ length (kept_line s) → text ≡ kept_line s ++ rest → QuotedAs (take count text) s
kept_stands s rest text count counted stands more =
    rw (stands, take_at (kept_line s) rest count (sym counted)) (kept_quoted s more)

-- What the code keeps of what a text has from a place on, or from its end where the place is behind it: so many characters are
-- moved to the text's start, and the first is made bad where one of the others is.
module _ (text moved : List ℕ) (from start kept : ℕ) (place : start ≡ min from (length text)) (count : kept ≡ min kept_length (length text - start))
    (copied : moved ≡ copy_within text start (start + kept) 0) where
  laid : moved ≡ take kept (drop start text) ++ drop kept text
  laid =
      let moves : start + kept - start ≡ kept = omega arith in
      let rest : 0 + kept ≡ kept = omega arith in copied ∙ rw (moves, rest)

  line : drop from text ≡ drop start text
  line = sym (drop_min from text) ∙ ap (λ (k : ℕ). drop k text) (sym place)

  line_count : min kept_length (length (drop from text)) ≡ kept
  line_count = simp length-drop (omega arith)

  -- the characters that are kept, and the others
  front : take kept_length (drop from text) ≡ take kept (drop start text)
  front = sym (take_min kept_length (drop from text)) ∙ rw (line_count, line)

  others : drop kept_length (drop from text) ≡ take (length text - (start + kept)) (drop (start + kept) text)
  others =
      sym (drop_min kept_length (drop from text))
      ∙ rw (line_count, line, drop-drop) (sym (take_all (length text - (start + kept)) (drop (start + kept) text) (simp length-drop (omega arith))))

  pub kept_count : kept ≡ length (kept_line (drop from text))
  kept_count = sym (length_kept (drop from text) ∙ line_count)

  pub kept_as_read : bad_character (take (length text - (start + kept)) (drop (start + kept) text)) ≡ false
      → moved ≡ kept_line (drop from text) ++ drop kept text
  unfolding kept_line
  kept_as_read e = rw (others, e, front) laid

  pub kept_made_bad : bad_character (take (length text - (start + kept)) (drop (start + kept) text)) ≡ true
      → set moved 0 0 ≡ kept_line (drop from text) ++ drop kept text
  unfolding kept_line
  kept_made_bad e =
      rw (others, e, front)
      (ap (λ (l : List ℕ). set l 0 0) laid
      ∙ set-append_left (take kept (drop start text)) (drop kept text) 0 0
      (simp (length-take, length-drop) (omega (arith, bad_some _ e, length-take (length text - (start + kept)) (drop (start + kept) text)))))
