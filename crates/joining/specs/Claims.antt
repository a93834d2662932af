-- What is claimed of joining (request [7] of document 02), of the lines of the registers and not of how the result is made: the
-- refusals, the order of the two, the result, and what the call gives where nothing is added. Assumes nothing.
use Rattle.std.specs.Prelude.{ℕ, ◌+◌, ◌≤◌, ◌<◌, cond, List, [], ◌++◌, ◌⊎◌, ◌≡◌, ltb, length, get_or, take, drop}
use Rattle.register.specs.Line.{number_in}
use Rattle.register.specs.Layout.{Register, used_lines}
use Rattle.register.specs.Check.{check_of}
use Rattle.register.specs.Find.{has_number, find_refusal, find_line}
use Rattle.joining.specs.Join.{join_step, joined}

-- a line is among those of a register
pub record LineIn (r : Register) (l : List ℕ) : Type 0 where
  pub place : ℕ
  pub inside : place < length (used_lines r)
  pub there : get_or (used_lines r) place [] ≡ l

-- and of one of two
abbrev pub LineInOne : Register → Register → List ℕ → Type 0
LineInOne first second l = LineIn first l ⊎ LineIn second l

-- the refusal that joining answers
abbrev pub refusal_given : Register → Register → List ℕ → ℕ
refusal_given first second target = (join_step first second target).answer.refusal

-- What is claimed of the refusals: each comes where its condition holds, and none where no condition does.
pub record RefusalClaim (first second : Register) (target : List ℕ) : Type 0 where
  -- 11 where either is unsound
  pub unsound_either : (((check_of first).refusal ≡ 0 → ⊥) ⊎ ((check_of second).refusal ≡ 0 → ⊥)) → refusal_given first second target ≡ 11
  -- 16 where lines of both have the same number and differ
  pub unlike : (check_of first).refusal ≡ 0 → (check_of second).refusal ≡ 0 → (l m : List ℕ) → LineIn first l → LineIn second m
      → number_in l ≡ number_in m → (l ≡ m → ⊥) → refusal_given first second target ≡ 16
  -- 16 where a number between those of two lines is no line's
  pub missing : (check_of first).refusal ≡ 0 → (check_of second).refusal ≡ 0 → (number : ℕ) (low high : List ℕ)
      → LineInOne first second low → LineInOne first second high → number_in low < number → number < number_in high
      → ((l : List ℕ) → LineInOne first second l → number_in l ≡ number → ⊥) → refusal_given first second target ≡ 16
  -- none where lines of the same number are equal, no number between is missing, and the buffer has room for both
  pub joinable : (check_of first).refusal ≡ 0 → (check_of second).refusal ≡ 0
      → ((l m : List ℕ) → LineIn first l → LineIn second m → number_in l ≡ number_in m → l ≡ m)
      → ((number : ℕ) (low high : List ℕ) → LineInOne first second low → LineInOne first second high
      → number_in low ≤ number → number ≤ number_in high → (l : List ℕ) × LineInOne first second l × (number_in l ≡ number))
      → first.used + second.used ≤ length target → refusal_given first second target ≡ 0
  -- and where a buffer has room, 17 in another exactly where that is shorter than the result
  pub short : (other : List ℕ) → refusal_given first second target ≡ 0
      → refusal_given first second other ≡ cond (ltb (length other) (joined first second target).used) 17 0
  -- under any, used length 0 and the buffer untouched
  pub untouched : (refusal_given first second target ≡ 0 → ⊥)
      → ((joined first second target).used ≡ 0) × ((joined first second target).bytes ≡ target)

-- What is claimed of the order in which the two are given: there is no difference.
abbrev pub EitherOrder : Register → Register → List ℕ → Type 0
EitherOrder first second target = join_step first second target ≡ join_step second first target

-- What is claimed of two registers joined without a refusal.
pub record JoinClaim (first second : Register) (target : List ℕ) : Type 0 where
  -- the result lies in the buffer
  pub inside : (joined first second target).used ≤ length target
  -- and "is a sound register"
  pub sound : (check_of (joined first second target)).refusal ≡ 0
  -- "of every number from the lower first to the higher last": a number not below that of some line of the two and not above that
  -- of another is found in the result
  pub every : (number : ℕ) (low high : List ℕ) → LineInOne first second low → LineInOne first second high
      → number_in low ≤ number → number ≤ number_in high → find_refusal (has_number number) (joined first second target) ≡ 0
  -- "each once"
  pub once : (j k : ℕ) → j < length (used_lines (joined first second target)) → k < length (used_lines (joined first second target))
      → number_in (get_or (used_lines (joined first second target)) j []) ≡ number_in (get_or (used_lines (joined first second target)) k [])
      → j ≡ k
  -- "Each line of the result belongs to one of the two", so that there is no other number
  pub belongs : (l : List ℕ) → LineIn (joined first second target) l → LineInOne first second l
  -- and each line of either is the one found in the result by its number
  pub kept : (l : List ℕ) → LineInOne first second l → find_line (has_number (number_in l)) (joined first second target) ≡ l
  -- "Bytes past the result stay"
  pub past : drop (joined first second target).used (joined first second target).bytes
      ≡ drop (joined first second target).used target

-- What is claimed where joining gives a sound register again: its used part, or 17 and the buffer as it was.
pub record JoinGives (first second : Register) (target : List ℕ) (r : Register) : Type 0 where
  pub fits : r.used ≤ length target
      → join_step first second target
      ≡ record { answer = record { refusal = 0; used = r.used }; state = take r.used r.bytes ++ drop r.used target }
  pub short : length target < r.used
      → join_step first second target ≡ record { answer = record { refusal = 17; used = 0 }; state = target }
