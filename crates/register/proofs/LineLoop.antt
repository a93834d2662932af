-- Writing a line: the figures of the next share behind those that are written, the characters that are made of figures' bytes, and
-- the whole line. The digits of one figure are compared one by one, those of more by induction. Assumes nothing.
use Rattle.std.proofs.Common.{◌≡◌, ℕ, ◌+◌, ◌/◌, ◌%◌, ◌≤◌, ◌<◌, List, [], ◌∷◌, ◌++◌, length, get_or, take, drop, refl, sym, ap, ◌∙◌, arith, add-one, append_assoc, length-append}
use Rattle.std.specs.Int.{w32, to_be_bytes}
use Rattle.std.specs.List.{flat_map}
use Rattle.std.proofs.lemmas.List.{take_all, take_more, append-nil}
use Rattle.std.proofs.lemmas.List.Concat.{flat_map-append}
use Rattle.std.proofs.lemmas.Slice.{take-put_mid}
use lib.ListN.{set, length-set, length-take, length-drop}
use lib.Seq.{take-suc-set, take_at}
use borrow.Rule.Slice.PartMut.{put_mid, same_len_mid}
use Rattle.split.specs.declared.answers.Share.{Share}
use Rattle.split.specs.Frame.{hex_text}
use Rattle.register.specs.Line.{figure_width, share_count, text_length, Figures, header_figures, share_figures, shares_figures, line_figures, figures_text, line_text}
use Rattle.register.specs.Scan.{figures_bytes, byte_values, spelled}
use Rattle.register.proofs.LineLaws.{before_length}

-- a list keeps its length when a part of it is written
pub next_whole : (l part : List ℕ) (at k n : ℕ) → length l ≡ n → at + k ≤ n → length part ≡ k → length (put_mid at k l part) ≡ n
next_whole l part at k n whole inside size =
    same_len_mid at k l part (simp (length-take, length-drop) (omega arith)) ∙ whole

-- the next part of a list written behind what others gave: each gives some numbers, and each number some bytes
pub next_written : {X : Type 0} (bytes : ℕ → List ℕ) (numbers : X → List ℕ) (before : List ℕ) (xs : List X) (d : X) (l part : List ℕ)
    (at k next i : ℕ) → i < length xs → at ≤ length l → next ≡ at + length part
    → take at l ≡ flat_map bytes (before ++ flat_map numbers (take i xs)) → part ≡ flat_map bytes (numbers (get_or xs i d))
    → take next (put_mid at k l part) ≡ flat_map bytes (before ++ flat_map numbers (take (i + 1) xs))
next_written bytes numbers before xs d l part at k next i h inside there so_far written =
    take-put_mid at k l part next there inside
    ∙ simp (so_far, written, take_more xs i d h, flat_map-append, append_assoc, append-nil)

-- a figure's bytes are spelled as its text, and so are those of figures one after the other
pub figure_spelled : (x : ℕ) → spelled (byte_values (to_be_bytes w32 x)) ≡ hex_text figure_width x
unfolding hex_text
figure_spelled x =
    let d₇ : x / 16777216 % 256 / 16 % 16 ≡ x / 16 / 16 / 16 / 16 / 16 / 16 / 16 % 16 = omega arith in
    let d₆ : x / 16777216 % 256 % 16 % 16 ≡ x / 16 / 16 / 16 / 16 / 16 / 16 % 16 = omega arith in
    let d₅ : x / 65536 % 256 / 16 % 16 ≡ x / 16 / 16 / 16 / 16 / 16 % 16 = omega arith in
    let d₄ : x / 65536 % 256 % 16 % 16 ≡ x / 16 / 16 / 16 / 16 % 16 = omega arith in
    let d₃ : x / 256 % 256 / 16 % 16 ≡ x / 16 / 16 / 16 % 16 = omega arith in
    let d₂ : x / 256 % 256 % 16 % 16 ≡ x / 16 / 16 % 16 = omega arith in
    let d₁ : x % 256 / 16 % 16 ≡ x / 16 % 16 = omega arith in
    let d₀ : x % 256 % 16 % 16 ≡ x % 16 = omega arith in
    simp (d₇, d₆, d₅, d₄, d₃, d₂, d₁, d₀)

figures_spelled : (xs : List ℕ) → spelled (byte_values (figures_bytes xs)) ≡ figures_text xs
unfolding figures_text
figures_spelled [] = refl
figures_spelled (x ∷ xs) =
    ap (λ (text : List ℕ). text ++ spelled (byte_values (figures_bytes xs))) (figure_spelled x)
    ∙ ap (λ (text : List ℕ). hex_text figure_width x ++ text) (figures_spelled xs)

-- the shares' figures, as the loop adds them
shares_flat : (xs : List Share) → flat_map share_figures xs ≡ shares_figures xs
shares_flat [] = refl
shares_flat (x ∷ xs) = ap (λ (ys : List ℕ). share_figures x ++ ys) (shares_flat xs)

-- digits and what stands behind them are as long as a line
pub line_long : (digits line : List ℕ) → length digits ≡ text_length → length line ≡ text_length + 1
    → length (digits ++ drop text_length line) ≡ text_length + 1
line_long digits line size room = simp (length-append, length-drop) (omega arith)

-- all shares are written, the bytes are spelled, and the newline comes behind their digits
pub line_written : (f : Figures) (bytes digits line : List ℕ) (n i : ℕ) → length f.shares ≡ share_count → length line ≡ text_length + 1
    → length f.shares ≤ i → length bytes ≤ n → take n bytes ≡ figures_bytes (header_figures f ++ flat_map share_figures (take i f.shares))
    → digits ≡ spelled (byte_values bytes) → set (digits ++ drop text_length line) text_length 10 ≡ line_text f
unfolding line_text
line_written f bytes digits line n i four room last full so_far made =
    let figures : header_figures f ++ flat_map share_figures (take i f.shares) ≡ line_figures f =
    ap (λ (xs : List Share). header_figures f ++ flat_map share_figures xs) (take_all i f.shares last)
    ∙ ap (λ (ys : List ℕ). header_figures f ++ ys) (shares_flat f.shares)
    in
    let whole : bytes ≡ figures_bytes (line_figures f) = sym (take_all n bytes full) ∙ so_far ∙ ap figures_bytes figures in
    let text : digits ≡ figures_text (line_figures f) =
    made ∙ ap (λ (bs : List ℕ). spelled (byte_values bs)) whole ∙ figures_spelled (line_figures f)
    in
    let size : length digits ≡ text_length = ap length text ∙ before_length f four in
    let l = digits ++ drop text_length line in
    let long = line_long digits line size room in
    sym (take_all (text_length + 1) (set l text_length 10) (simp length-set (omega arith)))
    ∙ rw add-one (take-suc-set l text_length 10 (omega arith))
    ∙ ap (λ (t : List ℕ). t ++ (10 ∷ [])) (take_at digits (drop text_length line) text_length size ∙ text)
