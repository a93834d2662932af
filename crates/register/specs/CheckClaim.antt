-- What is claimed of the check, which gives refusal 11, in words of its own: which characters may stand where, which numbers are
-- right, and what is wrong where the check stops. `digits` are a line's characters before its newline, `Fails` is what may be
-- wrong with a line that is otherwise good, and `fail_place` is where that is reported. Assumes nothing.
use Rattle.std.specs.Prelude.{ℕ, zero, suc, ◌+◌, ◌*◌, ◌≤◌, ◌<◌, List, ◌⊎◌, ◌≡◌, length, get_or, take, drop}
use Rattle.split.specs.Frame.{number_at}
use Rattle.register.specs.Answers.{Checked}
use Rattle.register.specs.Layout.{Register}
use Rattle.register.specs.Check.{check_of}

-- "Uppercase hexadecimal": one of 0-9 and A-F
abbrev pub Digit : ℕ → Type 0
Digit c = ((48 ≤ c) × (c ≤ 57)) ⊎ ((65 ≤ c) × (c ≤ 70))

-- a character may stand at a place of a line: a digit before the newline's place, and a newline at it
abbrev pub Stands : ℕ → ℕ → ℕ → Type 0
Stands digits place c = (place < digits → Digit c) × (digits ≤ place → c ≡ 10)

-- all before a place may stand where they do
abbrev pub StandTo : ℕ → List ℕ → ℕ → Type 0
StandTo digits l place = (j : ℕ) → j < place → Stands digits j (get_or l j 0)

-- line k of a register's bytes
abbrev pub nth_line : ℕ → List ℕ → ℕ → List ℕ
nth_line digits s k = take (digits + 1) (drop (k * (digits + 1)) s)

-- "Numbers rise by one; the first may be any from 1": line k has a right number in its first eight digits
abbrev pub Rises : (ℕ → List ℕ) → ℕ → Type 0
Rises nth zero = 0 < number_at (nth zero) 0 8
Rises nth (suc k) = number_at (nth (suc k)) 0 8 ≡ number_at (nth k) 0 8 + 1

-- nothing is wrong with a line, where `Right` says that its number is right
pub record SoundLine (digits : ℕ) (Fails : List ℕ → Type 0) (Right : Type 0) (l : List ℕ) : Type 0 where
  pub characters : StandTo digits l (digits + 1)
  pub right : Right
  pub passed : Fails l → ⊥

-- What is wrong with a line at a place. A character that may not stand there: all before it may, and where the eight digits are
-- before it, the number is right.
pub record WrongCharacter (digits : ℕ) (Right : Type 0) (l : List ℕ) (place : ℕ) : Type 0 where
  pub inside : place < digits + 1
  pub before : StandTo digits l place
  pub right : 8 ≤ place → Right
  pub wrong : Stands digits place (get_or l place 0) → ⊥

-- "A wrong number whose eight digits are good is bad at the line's first character, even if a bad character follows"
pub record WrongNumber (digits : ℕ) (Right : Type 0) (l : List ℕ) (place : ℕ) : Type 0 where
  pub reported : place ≡ 0
  pub figures : StandTo digits l 8
  pub wrong : Right → ⊥

-- or the whole line, where its characters and its number are good
pub record WrongWhole (digits : ℕ) (Fails : List ℕ → Type 0) (fail_place : ℕ) (Right : Type 0) (l : List ℕ) (place : ℕ) : Type 0 where
  pub reported : place ≡ fail_place
  pub characters : StandTo digits l (digits + 1)
  pub right : Right
  pub wrong : Fails l

abbrev pub LineWrong : ℕ → (List ℕ → Type 0) → ℕ → Type 0 → List ℕ → ℕ → Type 0
LineWrong digits Fails fail_place Right l place =
    WrongCharacter digits Right l place ⊎ (WrongNumber digits Right l place ⊎ WrongWhole digits Fails fail_place Right l place)

-- nothing is wrong with the first n lines
abbrev pub SoundTo : ℕ → (List ℕ → Type 0) → (ℕ → Type 0) → (ℕ → List ℕ) → ℕ → Type 0
SoundTo digits Fails Right nth n = (k : ℕ) → k < n → SoundLine digits Fails (Right k) (nth k)

-- "The first bad character of the first bad line" of n: nothing is wrong with the lines before
pub record FirstWrong (digits : ℕ) (Fails : List ℕ → Type 0) (fail_place : ℕ) (Right : ℕ → Type 0) (nth : ℕ → List ℕ) (n offset : ℕ) : Type 0 where
  pub line : ℕ
  pub inside : line < n
  pub before : SoundTo digits Fails Right nth line
  pub place : ℕ
  pub there : offset ≡ line * (digits + 1) + place
  pub wrong : LineWrong digits Fails fail_place (Right line) (nth line) place

-- the used length is so many whole lines within the buffer
pub record WholeUsed (digits : ℕ) (r : Register) : Type 0 where
  pub inside : r.used ≤ length r.bytes
  pub count : ℕ
  pub whole : r.used ≡ count * (digits + 1)

-- what the check of a register finds
pub record CheckClaim (digits : ℕ) (Fails : List ℕ → Type 0) (fail_place : ℕ) (r : Register) (found : Checked) : Type 0 where
  -- sound exactly where the used length is whole lines within the buffer and nothing is wrong with any line
  pub passes : (w : WholeUsed digits r)
      → SoundTo digits Fails (Rises (nth_line digits r.bytes)) (nth_line digits r.bytes) w.count
      → found ≡ record { refusal = 0; offset = 0 }
  pub passed : found.refusal ≡ 0
      → (w : WholeUsed digits r) × SoundTo digits Fails (Rises (nth_line digits r.bytes)) (nth_line digits r.bytes) w.count
  -- else 11: "a bad used length is tested first and gives itself", and else the offset is that of the first thing that is wrong
  pub refused : (found.refusal ≡ 0 → ⊥)
      → ((WholeUsed digits r → ⊥) × (found ≡ record { refusal = 11; offset = r.used }))
      ⊎ ((w : WholeUsed digits r) × (offset : ℕ) × (found ≡ record { refusal = 11; offset = offset })
      × FirstWrong digits Fails fail_place (Rises (nth_line digits r.bytes)) (nth_line digits r.bytes) w.count offset)

-- "The layout is those 120 digits and the newline, no more": nothing else may be wrong with a line
abbrev pub CheckedRight : Register → Type 0
CheckedRight r = CheckClaim 120 (λ l. ⊥) 0 r (check_of r)
