-- The order of clashes, and the least of some.
use Rattle.std.specs.Prelude.{◌≡◌, ◌≢◌, ◌⊎◌, ℕ, ◌+◌, ◌<◌, ◌≤◌, true, List, [], ◌∷◌, ◌++◌, All, get_or, length, take}
use Rattle.std.specs.Cmp.{IsTotalOrder}
use Rattle.std.specs.Ordering.{is_lt, ordering_reverse}
use Rattle.std.specs.declared.cmp.Ordering.{Ordering}
use Rattle.std.specs.declared.cmp.Ordering.TheVariants.{Less, Equal, Greater}
use Rattle.std.proofs.Common.{◌∙◌, refl, sym, ap, inl, inr, ⊎_elim}
use Rattle.std.proofs.lemmas.Cmp.{nat_cmp_total, nat_list_cmp_total, on_total, then_total}
use Rattle.std.proofs.lemmas.List.{take_all, take_more}
use Rattle.std.proofs.lemmas.List.Elements.{All-append, All-cons, All-nil, All-same}
use Rattle.mm_objects.specs.Linking.{clash_cmp, target_cmp}
use Rattle.mm_objects.specs.declared.target.Clash.{Clash}

pub target_cmp_total : IsTotalOrder target_cmp
target_cmp_total = then_total (on_total (λ t. t.unit) nat_cmp_total) (on_total (λ t. t.def) nat_cmp_total)

pub clash_cmp_total : IsTotalOrder clash_cmp
clash_cmp_total = then_total (on_total (λ x. x.symbol) nat_list_cmp_total) (then_total (on_total (λ x. x.first) target_cmp_total) (on_total (λ x. x.second) target_cmp_total))

-- what is its own reverse is `Equal`
tied : (r : Ordering) → r ≡ ordering_reverse r → r ≡ Equal
tied Less e = absurd (cc e)
tied Equal e = refl
tied Greater e = absurd (cc e)

less_not_equal : (r : Ordering) → r ≡ Less → r ≡ Equal → ⊥
less_not_equal r e f = absurd (cc (sym e ∙ f))

module _ {K : Type 0} (R : K → K → Ordering) (o : IsTotalOrder R) where
  pub not_less_itself : (x : K) → R x x ≢ Less
  not_less_itself x e = less_not_equal (R x x) e (tied (R x x) (o.antisymm x x))

  -- what is not less than the greater is not less than the lesser
  pub not_less_lesser : (x b y : K) → R x b ≡ Less → R y b ≢ Less → R y x ≢ Less
  not_less_lesser x b y lt not e = not (o.trans y x b e lt)

pub not_less_self : (x : Clash) → clash_cmp x x ≢ Less
not_less_self = not_less_itself clash_cmp clash_cmp_total

pub keeps_least : (x b y : Clash) → clash_cmp x b ≡ Less → clash_cmp y b ≢ Less → clash_cmp y x ≢ Less
keeps_least = not_less_lesser clash_cmp clash_cmp_total

pub all_more : {X : Type 0} (P : X → Type 0) (xs : List X) (i : ℕ) (d : X) → i < length xs → All P (take i xs) → P (get_or xs i d) → All P (take (i + 1) xs)
all_more P xs i d lt before here =
    All-same P (take (i + 1) xs) (take i xs ++ get_or xs i d ∷ []) (take_more xs i d lt)
    (All-append P (take i xs) (get_or xs i d ∷ []) before (All-cons P (get_or xs i d) [] here (All-nil P)))

pub all_taken : {X : Type 0} (P : X → Type 0) (xs : List X) (i : ℕ) → length xs ≤ i → All P (take i xs) → All P xs
all_taken P xs i le all = All-same P xs (take i xs) (sym (take_all i xs le)) all

pub turned : (r s : Ordering) → r ≡ ordering_reverse s → s ≢ Less → (r ≡ Less) ⊎ (s ≡ Equal)
turned r Less e n = absurd (n refl)
turned r Equal e n = inr refl
turned r Greater e n = inl e

module _ {K : Type 0} (R : K → K → Ordering) (o : IsTotalOrder R) where
  -- what is not above something less is less
  pub less_via : (a b e : K) → R a b ≡ Less → R a e ≢ Less → R e b ≡ Less
  less_via a b e lt n = ⊎_elim (λ l. o.trans e a b l lt) (λ q. sym (o.congr a e b q) ∙ lt) (turned (R e a) (R a e) (o.antisymm e a) n)

  -- what is less is less than what is not below the other
  pub less_through : (z x y : K) → R z x ≡ Less → R y x ≢ Less → R z y ≡ Less
  less_through z x y lt n =
      ⊎_elim (λ l. o.trans z x y lt l)
      (λ q. o.antisymm z y ∙ ap ordering_reverse (o.congr y x z q) ∙ sym (o.antisymm z x) ∙ lt)
      (turned (R x y) (R y x) (o.antisymm x y) n)

  pub equal_itself : (x : K) → R x x ≡ Equal
  equal_itself x = tied (R x x) (o.antisymm x x)

pub is_lt_less : (r : Ordering) → r ≡ Less → is_lt r ≡ true
is_lt_less r e = ap is_lt e

pub less_is_lt : (r : Ordering) → is_lt r ≡ true → r ≡ Less
less_is_lt Less e = refl
less_is_lt Equal e = absurd (cc e)
less_is_lt Greater e = absurd (cc e)
