-- What is asked of the types in the head of an impl, by their heads and their children.
use Rattle.std.proofs.Common.{◌≡◌, ℕ, List, length, Bool, true, false, ◌||◌, ◌&&◌, Result, Ok, Err, OnOk, refl, sym, ◌∙◌, ap}
use Rattle.std.specs.List.{list_any, list_all}
use Rattle.mm_ast.specs.declared.names.Name.{Name}
use Rattle.mm_ast.specs.declared.types.Type as types
use Rattle.mm_mentions.specs.ImplHeads.{is_param_head, occurs_in, names_crate_here, names_crate, written_alone, are_params}
use Rattle.mm_mentions.specs.Scopes.{Names}
use Rattle.std.proofs.lemmas.Bool.{eq-eqb}
use Rattle.mm_definitions.specs.Trees.{head_of, children_of}
use Rattle.mm_definitions.proofs.TreeLemmas.{type_fold-parts, list_any-map}

-- the head, or a child
pub occurs_in_parts : (name : List ℕ) (t : types.«Type») → occurs_in name t ≡ (is_param_head name (head_of t) || list_any (occurs_in name) (children_of t))
unfolding occurs_in
occurs_in_parts name t =
    type_fold-parts (λ line head below. is_param_head name head || list_any (λ occurs. occurs) below) t
    ∙ ap (λ b. is_param_head name (head_of t) || b) (list_any-map (λ occurs. occurs) (occurs_in name) (children_of t))

-- the head, or a child
pub names_crate_parts : (krate : List ℕ) (t : types.«Type») → names_crate krate t ≡ (names_crate_here krate (head_of t) || list_any (names_crate krate) (children_of t))
unfolding names_crate
names_crate_parts krate t =
    type_fold-parts (λ line head below. names_crate_here krate head || list_any (λ names. names) below) t
    ∙ ap (λ b. names_crate_here krate (head_of t) || b) (list_any-map (λ names. names) (names_crate krate) (children_of t))

pub or_assoc : (a b c : Bool) → ((a || b) || c) ≡ (a || (b || c))
or_assoc true b c = refl
or_assoc false b c = refl

-- names with those of a head, and then with those below it, are names with those of the type
pub gathered : {E : Type 0} (r : Result (Unit {0}) E) (new middle old head below whole : Names) → ((q : List ℕ) → middle q ≡ (old q || head q)) → ((q : List ℕ) → whole q ≡ (head q || below q)) → OnOk r ((q : List ℕ) → new q ≡ (middle q || below q)) → OnOk r ((q : List ℕ) → new q ≡ (old q || whole q))
gathered (Ok x) new middle old head below whole first is all = λ q. all q ∙ ap (λ b. b || below q) (first q) ∙ or_assoc (old q) (head q) (below q) ∙ ap (λ b. old q || b) (sym (is q))
gathered (Err e) new middle old head below whole first is all = tt

-- as many arguments as type parameters, each of which is among the names of the arguments
pub params_among : (r : Bool) (names : Names) (params : List Name) (args : List types.«Type») → length args ≡ length params → names ≡ written_alone args → r ≡ list_all (λ p. names p.text) params → r ≡ are_params params args
params_among r names params args many are all =
    all
    ∙ ap (λ n. list_all (λ p. n p.text) params) are
    ∙ sym (ap (λ b. b && list_all (λ p. written_alone args p.text) params) (eq-eqb (length args) (length params) many))
