-- Laws of the effective factor for the crates above: for terms within document 01's lists it lies between 5 and 80, whatever
-- the kind, and so does the multiple of its top and bottom that the code works out. Assumes nothing.
use mathlib.Core.Path.{◌≡◌, refl, ap}
use mathlib.Core.Bool.{Bool, true, false, cond, ◌||◌}
use Prim.Native.Nat.{ℕ, ◌*◌, ◌≤◌, ◌<◌}
use native.Mathlib.Nat.{zero-mul, mul-le-mul_left}
use native.Mathlib.Omega.{arith}
use lib.Dec.{eqb}
use borrow.Author.Tests.{eqb-true}
use Rattle.factors.specs.declared.effective.Factor.{Factor}
use Rattle.factors.specs.declared.effective.FactorTerms.{FactorTerms}
use Rattle.factors.specs.Effective.{lump_top, lump_bottom, effective_factor, FactorRange, multiplier, multiple}

-- kind 1
pub direct_range : (t : FactorTerms) → 500 ≤ t.f1 → t.f1 ≤ 4000 → FactorRange (effective_factor 1 t)
unfolding effective_factor
direct_range t low high = omega arith

-- terms of kind 2 within their lists
pub record DeferredTerms (t : FactorTerms) : Type 0 where
  pub f1_low : 500 ≤ t.f1
  pub f1_high : t.f1 ≤ 4000
  pub f2_low : 500 ≤ t.f2
  pub f2_high : t.f2 ≤ 4000
  pub f3_low : 1 ≤ t.f3
  pub f3_high : t.f3 ≤ 1000
  pub increase_low : 1 ≤ t.increase
  pub increase_high : t.increase ≤ 10000

pub deferred_range : (t : FactorTerms) → DeferredTerms t → FactorRange (effective_factor 2 t)
unfolding effective_factor lump_top lump_bottom
deferred_range t d =
    let p = t.increase in
    let a = mul-le-mul_left p d.f2_low in
    let b = mul-le-mul_left p d.f2_high in
    let e = mul-le-mul_left p d.f3_low in
    let f = mul-le-mul_left p d.f3_high in
    omega arith

-- kind 3
pub active_range : (t : FactorTerms) → FactorRange (effective_factor 3 t)
unfolding effective_factor
active_range t = omega arith

-- the multiple of the code, by whether the kind is 1 and whether it is 2
abbrev multiplier_by : Bool → Bool → ℕ
multiplier_by a b = cond a 100000 (cond b 1 10000000)

abbrev factor_by : Bool → Bool → FactorTerms → Factor
factor_by a b t =
    cond a (record { top = t.f1; bottom = 100 })
    (cond b (record { top = 10 * lump_top t; bottom = lump_bottom t }) (record { top = 12; bottom = 1 }))

pub multiplier_positive : (kind : ℕ) → 0 < multiplier kind
unfolding multiplier
multiplier_positive kind = go (eqb kind 1) (eqb kind 2)
  where
    go : (a b : Bool) → 0 < multiplier_by a b
    go true b = omega arith
    go false true = omega arith
    go false false = omega arith

pub multiple_range : (kind : ℕ) (t : FactorTerms) → FactorRange (effective_factor kind t)
    → FactorRange (multiple (multiplier kind) (effective_factor kind t))
unfolding effective_factor multiplier multiple
multiple_range kind t = go (eqb kind 1) (eqb kind 2)
  where
    go : (a b : Bool) → FactorRange (factor_by a b t) → FactorRange (multiple (multiplier_by a b) (factor_by a b t))
    go true b r = omega arith
    go false true r = omega arith
    go false false r = omega arith

made : {a b c d : ℕ} → a ≡ c → b ≡ d → ◌≡◌ {A = Factor} (record { top = a; bottom = b }) (record { top = c; bottom = d })
made x y = λ i. record { top = x i; bottom = y i }

-- what the code makes of terms that have 1,200 for F1 where the kind is neither 1 nor 2, and no increase where it is not 2
pub multiple_made : (kind f1 increase top bottom : ℕ) (t : FactorTerms) → f1 ≡ cond (eqb kind 1 || eqb kind 2) t.f1 1200
    → increase ≡ cond (eqb kind 2) t.increase 0
    → let s : FactorTerms = record { f1 = f1; f2 = t.f2; f3 = t.f3; increase = increase } in top ≡ lump_top s → bottom ≡ lump_bottom s
    → ◌≡◌ {A = Factor} (record { top = 10 * top; bottom = bottom }) (multiple (multiplier kind) (effective_factor kind t))
unfolding lump_top lump_bottom effective_factor multiplier multiple
multiple_made kind f1 increase top bottom t chosen raised x y = go (eqb kind 1) (eqb kind 2) refl refl chosen raised
  where
    none : increase ≡ 0 → (increase * t.f2 ≡ 0) × (increase * t.f3 ≡ 0)
    none e = rw e (zero-mul t.f2, zero-mul t.f3)

    go : (a b : Bool) → eqb kind 1 ≡ a → eqb kind 2 ≡ b → f1 ≡ cond (a || b) t.f1 1200 → increase ≡ cond b t.increase 0
        → ◌≡◌ {A = Factor} (record { top = 10 * top; bottom = bottom }) (multiple (multiplier_by a b) (factor_by a b t))
    go true true p q f r = absurd (omega (arith, eqb-true kind 1 p, eqb-true kind 2 q))
    go true false p q f r = made (omega (arith, none r)) (omega (arith, none r))
    go false true p q f r =
        made (omega (arith, ap (λ (n : ℕ). n * t.f2) r)) (omega (arith, ap (λ (n : ℕ). n * t.f3) r))
    go false false p q f r = made (omega (arith, none r)) (omega (arith, none r))
