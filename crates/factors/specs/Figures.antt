-- The starred figures of document 01 on months, read with request [6] of document 02, and on Table 1. Assumes nothing.
use Rattle.std.specs.Prelude.{◌+◌, ◌*◌, List, [], ◌∷◌}
use Rattle.calendar.specs.Calendar.{date, months}
use Rattle.calendar.specs.Figure.{Figure, figure}
use Rattle.factors.specs.Commutation.{table1}

unfoldable pub figures : List Figure
figures =
    -- 30 June 1972 to 15 October 2023: 615 months
    figure (months (date 1972 6 30) (date 2023 10 15)) 615 ∷
    -- 31 January to 28 February 2023: 1
    figure (months (date 2023 1 31) (date 2023 2 28)) 1 ∷
    -- Table at 63 years 4 months: 19.27
    figure (table1 (12 * 63 + 4)) 1927 ∷
    -- at 72 years 11 months: 13.06
    figure (table1 (12 * 72 + 11)) 1306 ∷ []
