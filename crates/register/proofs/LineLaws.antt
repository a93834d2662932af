-- A line of a register: its length, that every character before the newline is a digit, and that read back it gives the
-- figures it was written from: for any list of figures, and by induction on the shares. Assumes nothing.
use Prim.Native.Nat.{ℕ, zero, suc, ◌+◌, ◌*◌, ◌/◌, ◌<◌}
use mathlib.Core.Bool.{false}
use mathlib.Core.List.{List, [], ◌∷◌, ◌++◌, append_assoc}
use mathlib.Core.Path.{◌≡◌, refl, sym, ◌∙◌, ap, subst}
use native.Mathlib.Omega.{arith}
use lib.ListN.{length, get_or, drop, length-append, get_or-append}
use lib.Seq.{get_or_at}
use Rattle.split.specs.declared.answers.Share.{Share}
use Rattle.split.specs.Frame.{is_no_digit, bad_character, number_at, hex_text}
use Rattle.split.specs.Quote.{quote_of, no_share, SharesFit, lumps_in}
use Rattle.split.proofs.FrameLaws.{digit_known}
use Rattle.split.proofs.HexLaws.{hex_length, hex_good, hex_back, good_append, good_none}
use Rattle.split.proofs.QuoteLaws.{quote_fits}
use Rattle.register.specs.Line.{figure_width, number_place, member_place, total_place, header_length, share_length, share_count, text_length, Figures, figures_of, figures_for, header_figures, share_figures, shares_figures, line_figures, figures_text, line_text, line_for, number_in, member_in, total_in, share_at, shares_at, shares_in, figures_in, lumps_in_line}

-- figures one after the other: their text's length, that it is all digits, and that it is read back
figures_length : (xs : List ℕ) → length (figures_text xs) ≡ length xs * figure_width
unfolding figures_text
figures_length [] = omega arith
figures_length (x ∷ xs) = simp (length-append, hex_length, figures_length xs) (omega arith)

figures_good : (xs : List ℕ) → bad_character (figures_text xs) ≡ false
unfolding figures_text
figures_good [] = good_none
figures_good (x ∷ xs) = good_append _ _ (hex_good figure_width x) (figures_good xs)

-- n figures of a text, from a place on
abbrev figures_at : List ℕ → ℕ → ℕ → List ℕ
figures_at l at zero = []
figures_at l at (suc n) = number_at l at figure_width ∷ figures_at l (at + figure_width) n

-- each fits its digits
abbrev Fit : List ℕ → Type 0
Fit [] = Unit
Fit (x ∷ xs) = (x < 4294967296) × Fit xs

figures_more : (x : ℕ) (xs : List ℕ) → figures_text (x ∷ xs) ≡ hex_text figure_width x ++ figures_text xs
unfolding figures_text
figures_more x xs = refl

figures_behind : (xs pre rest : List ℕ) → Fit xs → figures_at (pre ++ (figures_text xs ++ rest)) (length pre) (length xs) ≡ xs
figures_behind [] pre rest fit = refl
figures_behind (x ∷ xs) pre rest fit =
    let behind : figures_text (x ∷ xs) ++ rest ≡ hex_text figure_width x ++ (figures_text xs ++ rest) =
    rw (figures_more x xs) (append_assoc (hex_text figure_width x) (figures_text xs) rest)
    in
    subst (λ (t : List ℕ). figures_at (pre ++ t) (length pre) (suc (length xs)) ≡ x ∷ xs) (sym behind)
    (simp (
      hex_back pre (figures_text xs ++ rest) figure_width x fit.0,
      simp (append_assoc, length-append, hex_length) at (figures_behind xs (pre ++ hex_text figure_width x) rest fit.1),
    ))

-- of figures that are read back from a place, each is read from its own, and so are those of two lists one after the other
figure_at : (l xs : List ℕ) (at place k : ℕ) → place ≡ at + k * figure_width → figures_at l at (length xs) ≡ xs → k < length xs
    → number_at l place figure_width ≡ get_or xs k 0
figure_at l [] at place k there e h = absurd (omega arith)
figure_at l (x ∷ xs) at place zero there e h =
    let here : place ≡ at = omega arith in
    rw here (ap (λ (ys : List ℕ). get_or ys 0 0) e)
figure_at l (x ∷ xs) at place (suc k) there e h =
    figure_at l xs (at + figure_width) place k (omega arith) (ap (drop 1) e) (omega arith)

figures_apart : (l xs ys : List ℕ) (at next : ℕ) → next ≡ at + length xs * figure_width → figures_at l at (length (xs ++ ys)) ≡ xs ++ ys
    → (figures_at l at (length xs) ≡ xs) × (figures_at l next (length ys) ≡ ys)
figures_apart l [] ys at next there e = let here : next ≡ at = omega arith in (refl, rw here e)
figures_apart l (x ∷ xs) ys at next there e =
    let rest = figures_apart l xs ys (at + figure_width) next (omega arith) (ap (drop 1) e) in
    (λ i. ap (λ (zs : List ℕ). get_or zs 0 0) e i ∷ rest.0 i, rest.1)

-- the shares by their figures: how many, that they fit, and that they are read back from a place
shares_count : (xs : List Share) → length (shares_figures xs) ≡ length xs * length (share_figures no_share)
shares_count [] = refl
shares_count (x ∷ xs) = omega (arith, shares_count xs)

shares_fit : (xs : List Share) → SharesFit xs → Fit (shares_figures xs)
shares_fit [] fit = tt
shares_fit (x ∷ xs) fit = (omega arith, (omega arith, (omega arith, shares_fit xs fit.3)))

-- the figure that stands so far behind a share's first
share_figure : (l : List ℕ) (at : ℕ) (x : Share) → figures_at l at (length (share_figures x)) ≡ share_figures x
    → (offset : ℕ) → offset / figure_width * figure_width ≡ offset → offset < share_length
    → number_at l (at + offset) figure_width ≡ get_or (share_figures x) (offset / figure_width) 0
share_figure l at x e offset whole h = figure_at l (share_figures x) at (at + offset) (offset / figure_width) (omega arith) e (omega arith)

share_from : (l : List ℕ) (at : ℕ) (x : Share) → figures_at l at (length (share_figures x)) ≡ share_figures x → share_at l at ≡ x
share_from l at x e =
    let lump : (share_at l at).lump.0 ≡ x.lump.0 = figure_at l (share_figures x) at at 0 (omega arith) e (omega arith) in
    let remaining : (share_at l at).remaining.0 ≡ x.remaining.0 = share_figure l at x e _ (omega arith) (omega arith) in
    let second : (share_at l at).second.0 ≡ x.second.0 = share_figure l at x e _ (omega arith) (omega arith) in
    λ i. record {
      lump = record { 0 = lump i };
      remaining = record { 0 = remaining i };
      second = record { 0 = second i };
    }

shares_from : (xs : List Share) (l : List ℕ) (at : ℕ) → figures_at l at (length (shares_figures xs)) ≡ shares_figures xs
    → shares_at l at (length xs) ≡ xs
shares_from [] l at e = refl
shares_from (x ∷ xs) l at e =
    let apart = figures_apart l (share_figures x) (shares_figures xs) at (at + share_length) (omega arith) e in
    simp (share_from l at x apart.0, shares_from xs l (at + share_length) apart.1)

-- a line of any figures with as many shares as a line has
module _ (f : Figures) (four : length f.shares ≡ share_count) where
  pub before_length : length (figures_text (line_figures f)) ≡ text_length
  unfolding text_length
  before_length = figures_length (line_figures f) ∙ simp (shares_count f.shares, four)

  line_text-length : length (line_text f) ≡ text_length + 1
  unfolding line_text
  line_text-length = rw (length-append (figures_text (line_figures f)) (10 ∷ []), before_length)

  text_digit : (i : ℕ) → i < text_length → is_no_digit (get_or (line_text f) i 0) ≡ false
  unfolding line_text
  text_digit i h =
      rw (get_or-append (figures_text (line_figures f)) (10 ∷ []) 0 i (omega (arith, before_length)))
      (digit_known (figures_text (line_figures f)) i (figures_good (line_figures f)) (omega (arith, before_length)))

  text_end : get_or (line_text f) text_length 0 ≡ 10
  unfolding line_text
  text_end = get_or_at (figures_text (line_figures f)) 10 [] 0 text_length before_length

-- its figures are read back
text_back : (f : Figures) → Fit (line_figures f) → figures_at (line_text f) 0 (length (line_figures f)) ≡ line_figures f
unfolding line_text
text_back f fit = figures_behind (line_figures f) [] (10 ∷ []) fit

-- the line of a case under a number
module _ (k : ℕ) (c : List ℕ) where
  four : length (figures_for k c).shares ≡ share_count
  unfolding figures_for figures_of
  four = (quote_fits c).four

  pub line_for-length : length (line_for k c) ≡ text_length + 1
  unfolding line_for
  line_for-length = line_text-length (figures_for k c) four

  pub line_digit : (i : ℕ) → i < text_length → is_no_digit (get_or (line_for k c) i 0) ≡ false
  unfolding line_for
  line_digit = text_digit (figures_for k c) four

  pub line_end : get_or (line_for k c) text_length 0 ≡ 10
  unfolding line_for
  line_end = text_end (figures_for k c) four

  module _ (low : k < 4294967296) where
    line_back : figures_at (line_for k c) 0 (length (line_figures (figures_for k c))) ≡ line_figures (figures_for k c)
    unfolding line_for figures_for figures_of
    line_back =
        let fits = quote_fits c in
        text_back (figures_for k c)
        (low, (omega (arith, fits), (omega (arith, fits), shares_fit (quote_of c).shares fits.shares)))

    -- the header's figures and those of the shares
    parts_back : (figures_at (line_for k c) 0 (length (header_figures (figures_for k c))) ≡ header_figures (figures_for k c))
        × (figures_at (line_for k c) header_length (length (shares_figures (figures_for k c).shares)) ≡ shares_figures (figures_for k c).shares)
    parts_back =
        figures_apart (line_for k c) (header_figures (figures_for k c)) (shares_figures (figures_for k c).shares) 0 header_length refl line_back

    pub shares_back : shares_in (line_for k c) ≡ (quote_of c).shares
    unfolding shares_in figures_for figures_of
    shares_back = rw four at (shares_from (quote_of c).shares (line_for k c) header_length parts_back.1)

    header_back : (j place : ℕ) → place ≡ j * figure_width → j < length (header_figures (figures_for k c))
        → number_at (line_for k c) place figure_width ≡ get_or (header_figures (figures_for k c)) j 0
    header_back j place there h = figure_at (line_for k c) (header_figures (figures_for k c)) 0 place j (omega arith) parts_back.0 h

    pub number_back : number_in (line_for k c) ≡ k
    unfolding number_in figures_for figures_of
    number_back = header_back (number_place / figure_width) number_place refl (omega arith)

    pub total_back : total_in (line_for k c) ≡ (quote_of c).total.0
    unfolding total_in figures_for figures_of
    total_back = header_back (total_place / figure_width) total_place refl (omega arith)

    pub lumps_back : lumps_in_line (line_for k c) ≡ lumps_in (quote_of c).shares
    unfolding lumps_in_line
    lumps_back = ap lumps_in shares_back

    pub figures_back : figures_in (line_for k c) ≡ figures_for k c
    unfolding figures_in member_in figures_for figures_of
    figures_back = λ i. record {
      number = number_back i;
      member = header_back (member_place / figure_width) member_place refl (omega arith) i;
      total = total_back i;
      shares = shares_back i;
    }
