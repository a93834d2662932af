-- `write_figure` spells the bytes of the figure.
use Rattle.std.proofs.Common.{ℕ, List, ap, ◌∙◌}
use Rattle.register.specs.Scan.{byte_values, spelled}
use Rattle.register.proofs.LineLoop.{figure_spelled}
use Rattle.register.proofs.layout.write_figure.Goals as goal

pub returns : goal.returns
returns c =
    c.write_digits.ensures ∙ ap (λ (bytes : List ℕ). spelled (byte_values bytes)) c.to_be_bytes.ensures
    ∙ figure_spelled c.args.value
