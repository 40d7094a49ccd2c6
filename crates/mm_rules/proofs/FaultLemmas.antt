-- Lists of faults put together.
use Rattle.std.proofs.Common.{◌≡◌, ℕ, ◌+◌, ◌<◌, ◌⊎◌, inl, inr, refl, subst, List, [], ◌∷◌, ◌++◌, length, take, get_or, flat_map, sym, ◌∙◌, ap, arith}
use Rattle.std.proofs.lemmas.List.{append_assoc, append-nil, map-append, take_more}
use Rattle.std.proofs.lemmas.List.Concat.{flat_map-append}
use Rattle.std.proofs.lemmas.List.Elements.{All-nil, All-cons, All-append, All-weaker, All-contains, Contains-append_left, Contains-append_right}
use Rattle.std.specs.Prelude.{All, Contains}
use Rattle.mm_terms.proofs.ListLemmas.{Contains-here, Contains-nil}
use Rattle.mm_rules.specs.Faults.{place_of, NoLater, IsFirst}
use Rattle.mm_rules.specs.declared.fault.CrateRule.{CrateRule}
use Rattle.mm_rules.specs.declared.fault.Fault.{Fault}
use Rattle.mm_rules.specs.MentionRules.{fault_at, at_line}

-- the faults of three lists of rules, one after the other
pub three_at : (old : List Fault) (line : ℕ) (a b c : List CrateRule) → ((old ++ at_line line a) ++ at_line line b) ++ at_line line c ≡ old ++ at_line line (a ++ b ++ c)
three_at old line a b c =
    ap (λ fs. fs ++ at_line line c) (append_assoc old (at_line line a) (at_line line b) ∙ ap (λ fs. old ++ fs) (sym (map-append (fault_at line) a b)))
    ∙ append_assoc old (at_line line (a ++ b)) (at_line line c)
    ∙ ap (λ fs. old ++ fs) (sym (map-append (fault_at line) (a ++ b) c))

-- what f gives of a list, after one more of it
pub flat_map-more : {A B : Type 0} (f : A → List B) (xs : List A) (i : ℕ) (x : A) (old now new : List B) → i < length xs → x ≡ get_or xs i x → now ≡ old ++ flat_map f (take i xs) → new ≡ now ++ f x → new ≡ old ++ flat_map f (take (i + 1) xs)
flat_map-more f xs i x old now new within at so_far more =
    more
    ∙ ap (λ ys. ys ++ f x) so_far
    ∙ append_assoc old (flat_map f (take i xs)) (f x)
    ∙ ap (λ ys. old ++ (flat_map f (take i xs) ++ ys)) (sym (append-nil (f x)))
    ∙ ap (λ ys. old ++ ys) (sym (flat_map-append f (take i xs) (x ∷ [])))
    ∙ ap (λ ys. old ++ flat_map f ys) (sym (take_more xs i x within ∙ ap (λ y. take i xs ++ y ∷ []) (sym at)))

-- ---- the first fault

pub no_later_itself : (f : Fault) → NoLater f f
no_later_itself f = inr (refl, omega arith)

pub no_later_through : (f g h : Fault) → NoLater f g → NoLater g h → NoLater f h
no_later_through f g h (inl l) (inl m) = inl (omega (arith, l, m))
no_later_through f g h (inl l) (inr (same, m)) = inl (subst (λ r. place_of f.rule < place_of r) same l)
no_later_through f g h (inr (same, l)) (inl m) = inl (subst (λ r. place_of r < place_of h.rule) (sym same) m)
no_later_through f g h (inr (same, l)) (inr (as_well, m)) = inr (same ∙ as_well, omega (arith, l, m))

pub first_alone : (f : Fault) → IsFirst (f ∷ []) f
first_alone f = record { one = Contains-here f []; first = All-cons (NoLater f) f [] (no_later_itself f) (All-nil (NoLater f)) }

-- the first of some faults and one more is one of both, and comes no later than both
pub first_more : (fs : List Fault) (f g h : Fault) → IsFirst fs f → (h ≡ f) ⊎ (h ≡ g) → NoLater h f → NoLater h g → IsFirst (fs ++ g ∷ []) h
first_more fs f g h is which before_f before_g = record { one = at which; first = all }
  where
    at : (h ≡ f) ⊎ (h ≡ g) → Contains (fs ++ g ∷ []) h
    at (inl same) = Contains-append_left fs (g ∷ []) h (subst (Contains fs) (sym same) is.one)
    at (inr same) = Contains-append_right fs (g ∷ []) h (subst (Contains (g ∷ [])) (sym same) (Contains-here g []))

    all : All (NoLater h) (fs ++ g ∷ [])
    all = All-append (NoLater h) fs (g ∷ [])
        (All-weaker (NoLater f) (NoLater h) (λ other. no_later_through h f other before_f) fs is.first)
        (All-cons (NoLater h) g [] before_g (All-nil (NoLater h)))

-- ---- one first fault

-- of two faults, of which each comes no later than the other, there is one
one_fault : (f g : Fault) → NoLater f g → NoLater g f → f ≡ g
one_fault f g (inl l) (inl m) = absurd (omega (arith, l, m))
one_fault f g (inl l) (inr (same, m)) = absurd (omega (arith, l, ap place_of same))
one_fault f g (inr (same, l)) (inl m) = absurd (omega (arith, m, ap place_of same))
one_fault f g (inr (same, l)) (inr (as_well, m)) =
    let line : f.line ≡ g.line = omega (arith, l, m) in ap (λ r. record { rule = r; line = f.line }) same ∙ ap (λ n. record { rule = g.rule; line = n }) line

pub one_first : (fs : List Fault) (f g : Fault) → IsFirst fs f → IsFirst fs g → f ≡ g
one_first fs f g is is_as_well =
    one_fault f g (All-contains (NoLater f) fs g is.first is_as_well.one) (All-contains (NoLater g) fs f is_as_well.first is.one)

-- where there are no faults, none is the first
pub no_first : (fs : List Fault) (f : Fault) → fs ≡ [] → IsFirst fs f → ⊥
no_first fs f none is = Contains-nil f (subst (λ gs. Contains gs f) none is.one)
