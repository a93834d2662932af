-- `next` takes off what stands before the first newline, which `memchr` finds, or all that is left, where it finds none.
use Rattle.std.proofs.Common.{◌≡◌, ◌+◌, ◌∷◌, [], length, take, drop, ap, arith, rules}
use Rattle.std.proofs.lemmas.List.{take_rest}
use Rattle.register.specs.Text.{text_lines}
use Rattle.register.specs.Scan.{lines_left}
use Rattle.register.proofs.TextLaws.{lines_none, lines_first, lines_last}
use Rattle.register.proofs.text.LinesIterator.next.Goals.{In-Some, In-None}
use Rattle.register.proofs.text.LinesIterator.next.Goals as goal

first : (c : In-Some) → lines_left c.args.self.now ≡ take c.in-Some.end c.args.self.now.0.now ∷ text_lines (drop (c.in-Some.end + 1) c.args.self.now.0.now)
first c = lines_first _ c.in-Some.end c.in-Some.ensures.0 c.in-Some.ensures.1

last : (c : In-None) → lines_left c.args.self.now ≡ c.args.self.now.0.now ∷ text_lines []
last c = lines_last _ (search rules) c.in-None.ensures

pub returns-then-is_empty-clause-steps : goal.returns-then-is_empty-clause-steps
returns-then-is_empty-clause-steps c = let none = lines_none _ (search rules) in (none, none)

pub returns-in-Some-clause-steps : goal.returns-in-Some-clause-steps
returns-in-Some-clause-steps c = rw take_rest (first ((goal.at.returns-in-Some-clause-steps c).In-Some))

pub returns-in-Some-clause-goes : goal.returns-in-Some-clause-goes
returns-in-Some-clause-goes c =
    record { on = λ _. (tt, tt, rw take_rest (omega (arith, ap length (first ((goal.at.returns-in-Some-clause-goes c).In-Some))))); keeps = tt; rests = λ _. tt }

pub returns-in-None-clause-steps : goal.returns-in-None-clause-steps
returns-in-None-clause-steps c = last ((goal.at.returns-in-None-clause-steps c).In-None)

pub returns-in-None-clause-goes : goal.returns-in-None-clause-goes
returns-in-None-clause-goes c =
    record { on = λ _. (tt, tt, omega (arith, ap length (last ((goal.at.returns-in-None-clause-goes c).In-None)))); keeps = tt; rests = λ _. tt }
