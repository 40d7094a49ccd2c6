-- Sets of names, after one more, and what a scope knows by them.
use Rattle.std.proofs.Common.{◌≡◌, ℕ, ◌+◌, ◌<◌, ◌≤◌, List, [], ◌∷◌, ◌++◌, length, take, get_or, Bool, true, false, ◌||◌, if◌then◌else◌, refl, sym, ◌∙◌, ap}
use Rattle.std.proofs.lemmas.List.{take_all}
use Rattle.std.proofs.lemmas.List.Folds.{list_any-append, list_any_more}
use Rattle.std.specs.List.{list_any}
use Rattle.std.specs.Str.{bytes_eq}
use denote.Ref.{Bor}
use Rattle.mm_ast.specs.declared.names.Name.{Name}
use Rattle.mm_terms.proofs.ListLemmas.{same_bytes}
use Rattle.mm_mentions.specs.Scopes.{Names, of_params}

or_false : (b : Bool) → (b || false) ≡ b
or_false true = refl
or_false false = refl

or_true : (b : Bool) → (b || true) ≡ true
or_true true = refl
or_true false = refl

or_same : (a b : Bool) → (b ≡ true → a ≡ true) → a ≡ (a || b)
or_same a true h = h refl ∙ sym (or_true a)
or_same a false h = sym (or_false a)

module _ (keys : List (Bor (List ℕ))) (key : Bor (List ℕ)) (q : List ℕ) where
  by_cases : (b : Bool) → list_any (λ k. bytes_eq key.now k.now) keys ≡ b → list_any (λ k. bytes_eq q k.now) (if b then keys else keys ++ key ∷ []) ≡ (list_any (λ k. bytes_eq q k.now) keys || bytes_eq q key.now)
  by_cases true there = or_same (list_any (λ k. bytes_eq q k.now) keys) (bytes_eq q key.now) (λ same. ap (λ n. list_any (λ k. bytes_eq n k.now) keys) (same_bytes q key.now same) ∙ there)
  by_cases false there = list_any-append (λ k. bytes_eq q k.now) keys (key ∷ []) ∙ ap (λ b. list_any (λ k. bytes_eq q k.now) keys || b) (or_false (bytes_eq q key.now))

  -- the set has the key, and what it had
  pub inserted : list_any (λ k. bytes_eq q k.now) (if list_any (λ k. bytes_eq key.now k.now) keys then keys else keys ++ key ∷ []) ≡ (list_any (λ k. bytes_eq q k.now) keys || bytes_eq q key.now)
  inserted = by_cases (list_any (λ k. bytes_eq key.now k.now) keys) refl

-- one type parameter more
pub param_more : (params : List Name) (i : ℕ) (param : Name) (q text : List ℕ) (old : Bool) → old ≡ of_params (take i params) q → i < length params → param ≡ get_or params i param → text ≡ param.text → (old || bytes_eq q text) ≡ of_params (take (i + 1) params) q
param_more params i param q text old so_far within at is =
    ap (λ b. b || bytes_eq q text) so_far
    ∙ ap (λ t. of_params (take i params) q || bytes_eq q t) (is ∙ ap (λ p. p.text) at)
    ∙ sym (list_any_more (λ p. bytes_eq q p.text) params i param within)

pub param_all : (params : List Name) (i : ℕ) (names : Names) → ((q : List ℕ) → names q ≡ of_params (take i params) q) → length params ≤ i → names ≡ of_params params
param_all params i names so_far within = λ j q. (so_far q ∙ ap (λ ps. of_params ps q) (take_all i params within)) j
