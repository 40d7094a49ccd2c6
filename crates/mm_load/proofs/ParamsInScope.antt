-- The names that may stand for type parameters have numbers, which are below the number of the type parameters in scope.
use Rattle.std.proofs.Common.{◌≡◌, ℕ, suc, ◌+◌, ◌<◌, List, [], ◌∷◌, ◌++◌, length, Bool, true, false, ◌||◌, cond, Option, None, Some, refl, sym, ap, ◌∙◌, subst, arith}
use Rattle.std.proofs.lemmas.Bool.{false≢true}
use Rattle.std.proofs.lemmas.List.{length-append, length-map}
use Rattle.std.proofs.lemmas.List.Folds.{list_any-append}
use Rattle.std.specs.List.{list_any}
use Rattle.std.specs.Option.{option_map}
use Rattle.std.specs.Prelude.{unwrap_or}
use Rattle.std.specs.Str.{bytes_eq}
use Rattle.mm_ast.specs.declared.names.Name.{Name}
use Rattle.mm_lower.specs.Params.{index_of, number_of, numbered, self_name, texts}
use Rattle.mm_mentions.specs.FunctionMentions.{scope_with}
use Rattle.mm_mentions.specs.Scopes.{of_params, scope_of}
use Rattle.mm_terms.proofs.ListLemmas.{bytes_same}
use Rattle.mm_load.specs.Leads.{InScope}

-- ---- names in a list

number_step : (here later : Bool) (o : Option ℕ) (n : ℕ) → (here || later) ≡ true → (later ≡ true → unwrap_or o 0 < n) → unwrap_or (cond here (Some 0) (option_map suc o)) 0 < suc n
number_step true later o n has rest = omega arith
number_step false later None n has rest = omega arith
number_step false later (Some i) n has rest = omega (arith, rest has)

-- a name that is one of these has a number below how many they are
number_within : (ns : List (List ℕ)) (name : List ℕ) → list_any (bytes_eq name) ns ≡ true → number_of (numbered ns) name < length ns
number_within [] name has = absurd (false≢true has)
number_within (n ∷ ns) name has = number_step (bytes_eq name n) (list_any (bytes_eq name) ns) (index_of ns name) (length ns) has (number_within ns name)

-- the name of a type parameter is one of their texts
among_texts : (params : List Name) (name : List ℕ) → of_params params name ≡ list_any (bytes_eq name) (texts params)
among_texts [] name = refl
among_texts (p ∷ params) name = ap (λ b. bytes_eq name p.text || b) (among_texts params name)

-- of an outer definition or of its own
among_both : (outer own : List Name) (name : List ℕ) → (of_params outer name || of_params own name) ≡ list_any (bytes_eq name) (texts outer ++ texts own)
among_both outer own name =
    (λ i. among_texts outer name i || among_texts own name i) ∙ sym (list_any-append (bytes_eq name) (texts outer) (texts own))

or_later : (a b : Bool) → b ≡ true → (a || b) ≡ true
or_later true b is = refl
or_later false b is = is

-- ---- scopes

-- the type parameters of a definition that stands in no other, where there are as many of them as texts
pub texts_in_scope : (params : List Name) → InScope (scope_with (of_params params)) (numbered (texts params)) (length (texts params))
texts_in_scope params = record {
  param = λ name has. number_within (texts params) name (sym (among_texts params name) ∙ has);
  self_type = λ has. absurd (false≢true has);
}

pub params_in_scope : (params : List Name) → InScope (scope_with (of_params params)) (numbered (texts params)) (length params)
params_in_scope params =
    subst (InScope (scope_with (of_params params)) (numbered (texts params))) (length-map params (λ name. name.text)) (texts_in_scope params)

-- those of a method, behind those of its impl
pub given_in_scope : (outer own : List Name) → InScope (scope_of (of_params outer) (of_params own) false) (numbered (texts outer ++ texts own)) (length (texts outer) + length own)
given_in_scope outer own =
    let long : length (texts outer ++ texts own) ≡ length (texts outer) + length own =
    length-append (texts outer) (texts own) ∙ ap (λ n. length (texts outer) + n) (length-map own (λ name. name.text)) in
    subst (InScope (scope_of (of_params outer) (of_params own) false) (numbered (texts outer ++ texts own))) long (record {
      param = λ name has. number_within (texts outer ++ texts own) name (sym (among_both outer own name) ∙ has);
      self_type = λ has. absurd (false≢true has);
    })

-- those of a method of a trait, behind `Self` and those of the trait
pub method_in_scope : (outer own : List Name) → InScope (scope_of (of_params outer) (of_params own) true) (numbered (self_name ∷ texts outer ++ texts own)) (length (self_name ∷ texts outer) + length own)
method_in_scope outer own =
    let long : length (self_name ∷ texts outer ++ texts own) ≡ length (self_name ∷ texts outer) + length own =
    length-append (self_name ∷ texts outer) (texts own) ∙ ap (λ n. length (self_name ∷ texts outer) + n) (length-map own (λ name. name.text)) in
    subst (InScope (scope_of (of_params outer) (of_params own) true) (numbered (self_name ∷ texts outer ++ texts own))) long (record {
      param = λ name has. number_within (self_name ∷ texts outer ++ texts own) name
          (or_later (bytes_eq name self_name) (list_any (bytes_eq name) (texts outer ++ texts own)) (sym (among_both outer own name) ∙ has));
      self_type = λ has. number_within (self_name ∷ texts outer ++ texts own) self_name
          (ap (λ b. b || list_any (bytes_eq self_name) (texts outer ++ texts own)) (bytes_same self_name));
    })
