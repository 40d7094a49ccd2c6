-- What follows of the answers of functions that ask a rule.
use Rattle.std.proofs.Common.{◌≡◌, ℕ, ◌+◌, ◌<◌, ◌≤◌, List, [], ◌∷◌, ◌++◌, length, map, take, drop, get_or, Some, Result, Ok, Err, refl, sym, ◌∙◌, ap, subst}
use Rattle.std.proofs.lemmas.List.{take_more, take_all, take-append-drop, drop_more, drop_all, append-nil}
use Rattle.std.proofs.lemmas.List.Concat.{flat_map-append}
use Rattle.std.proofs.lemmas.List.Folds.{flat_map-map}
use Rattle.std.proofs.lemmas.Option.{none-some}
use Rattle.std.specs.List.{flat_map, slice_get}
use Rattle.mm_load_plain.specs.declared.rule.Rule.{Rule}
use Rattle.mm_load_plain.specs.declared.load_error.LoadError as errors
use Rattle.mm_load_plain.specs.declared.load_error.LoadError.TheVariants.{Rule as Broken, NotBuilt, NoMemory}
use Rattle.mm_load_plain.specs.Asking.{Reports, answered, reported}
use Rattle.mm_load_plain.specs.Rules.{along, of_call}
use Rattle.mm_ast.specs.declared.bodies.Call.{Call}
use Rattle.mm_ast.specs.declared.bodies.End.{End}
use Rattle.mm_ast.specs.declared.bodies.End.TheVariants as ends

first_here : (xs ys : List ℕ) (line : ℕ) → slice_get xs 0 ≡ Some line → slice_get (xs ++ ys) 0 ≡ Some line
first_here [] ys line h = absurd (none-some line h)
first_here (x ∷ xs) ys line h = h

reported_here : (rule : Rule) (xs ys : List ℕ) (e : errors.LoadError) → reported rule xs e → reported rule (xs ++ ys) e
reported_here rule xs ys (Broken which at) t = (t.0, first_here xs ys at t.1)
reported_here rule xs ys NotBuilt t = t
reported_here rule xs ys NoMemory t = tt

-- what is handed on by `?`
pub handed : (rule : Rule) (lines : List ℕ) (r : Result (Unit {0}) errors.LoadError) (e : errors.LoadError) → (x : errors.LoadError) × (r ≡ Err x) × (x ≡ e) → Reports rule lines (Err e) → Reports rule lines r
handed rule lines r e p t = subst (Reports rule lines) (sym (p.1 ∙ ap Err p.2)) t

-- a rule that fails in a part fails in the whole, and first in the first such part
pub reports_here : (rule : Rule) (xs ys : List ℕ) (e : errors.LoadError) → Reports rule xs (Err e) → Reports rule (xs ++ ys) (Err e)
reports_here rule xs ys e t = record { answer = reported_here rule xs ys e t.answer }

pub reports_next : (rule : Rule) (xs ys : List ℕ) (u : Unit {0}) (r : Result (Unit {0}) errors.LoadError) → Reports rule xs (Ok u) → Reports rule ys r → Reports rule (xs ++ ys) r
reports_next rule xs ys u r kept t = record { answer = subst (λ ps. answered rule (ps ++ ys) r) (sym kept.answer) t.answer }

-- what is asked of calls is nothing of a block that ends otherwise
pub no_call : (rule : Rule) (says : Call → List ℕ) (end : End) → ((call : Call) → end ≡ ends.Call call → ⊥) → Reports rule (of_call says end) (Ok tt)
no_call rule says ends.Return other = record { answer = refl }
no_call rule says ends.Unreachable other = record { answer = refl }
no_call rule says (ends.Goto label) other = record { answer = refl }
no_call rule says (ends.Switch switch) other = record { answer = refl }
no_call rule says (ends.Drop place label) other = record { answer = refl }
no_call rule says (ends.Call call) other = absurd (other call refl)

module _ {A : Type 0} (f : A → List ℕ) (xs : List A) (i : ℕ) where
  flat_map-take : (x : A) → i < length xs → x ≡ get_or xs i x → flat_map f (take (i + 1) xs) ≡ flat_map f (take i xs) ++ f x
  flat_map-take x l at =
      ap (flat_map f) (take_more xs i x l ∙ ap (λ y. take i xs ++ y ∷ []) (sym at))
      ∙ flat_map-append f (take i xs) (x ∷ [])
      ∙ ap (λ ps. flat_map f (take i xs) ++ ps) (append-nil (f x))

  -- a loop over parts goes on where a rule fails in none of those so far
  pub kept_more : (rule : Rule) (x : A) (u : Unit {0}) → flat_map f (take i xs) ≡ [] → i < length xs → x ≡ get_or xs i x → Reports rule (f x) (Ok u) → flat_map f (take (i + 1) xs) ≡ []
  kept_more rule x u kept l at t = flat_map-take x l at ∙ ap (λ ps. ps ++ f x) kept ∙ t.answer

  -- where it fails in the next part, this is the first line of all
  pub fault_more : (rule : Rule) (x : A) (e : errors.LoadError) → flat_map f (take i xs) ≡ [] → i < length xs → x ≡ get_or xs i x → Reports rule (f x) (Err e) → Reports rule (flat_map f xs) (Err e)
  fault_more rule x e kept l at t =
      let here : flat_map f (take (i + 1) xs) ≡ f x = flat_map-take x l at ∙ ap (λ ps. ps ++ f x) kept in
      let all : flat_map f xs ≡ f x ++ flat_map f (drop (i + 1) xs) = ap (flat_map f) (sym (take-append-drop (i + 1) xs)) ∙ flat_map-append f (take (i + 1) xs) (drop (i + 1) xs) ∙ ap (λ ps. ps ++ flat_map f (drop (i + 1) xs)) here in
      subst (λ ps. Reports rule ps (Err e)) (sym all) (reports_here rule (f x) (flat_map f (drop (i + 1) xs)) e t)

  pub kept_all : (rule : Rule) → flat_map f (take i xs) ≡ [] → length xs ≤ i → Reports rule (flat_map f xs) (Ok tt)
  kept_all rule kept l = record { answer = ap (flat_map f) (sym (take_all i xs l)) ∙ kept }

module _ {A : Type 0} (f : List A → A → List ℕ) (xs : List A) (i : ℕ) where
  along_more : (x : A) → along f [] xs ≡ along f (take i xs) (drop i xs) → i < length xs → x ≡ get_or xs i x → along f [] xs ≡ f (take i xs) x ++ along f (take (i + 1) xs) (drop (i + 1) xs)
  along_more x so_far l at =
      let more : take (i + 1) xs ≡ take i xs ++ x ∷ [] = take_more xs i x l ∙ ap (λ y. take i xs ++ y ∷ []) (sym at) in
      so_far ∙ ap (along f (take i xs)) (drop_more xs i x l ∙ ap (λ y. y ∷ drop (i + 1) xs) (sym at))
      ∙ ap (λ ys. f (take i xs) x ++ along f ys (drop (i + 1) xs)) (sym more)

  -- the same of a rule that looks at the parts before as well
  pub along_kept : (rule : Rule) (x : A) (u : Unit {0}) → along f [] xs ≡ along f (take i xs) (drop i xs) → i < length xs → x ≡ get_or xs i x → Reports rule (f (take i xs) x) (Ok u) → along f [] xs ≡ along f (take (i + 1) xs) (drop (i + 1) xs)
  along_kept rule x u so_far l at t = along_more x so_far l at ∙ ap (λ ps. ps ++ along f (take (i + 1) xs) (drop (i + 1) xs)) t.answer

  pub along_fault : (rule : Rule) (x : A) (e : errors.LoadError) → along f [] xs ≡ along f (take i xs) (drop i xs) → i < length xs → x ≡ get_or xs i x → Reports rule (f (take i xs) x) (Err e) → Reports rule (along f [] xs) (Err e)
  along_fault rule x e so_far l at t = subst (λ ps. Reports rule ps (Err e)) (sym (along_more x so_far l at)) (reports_here rule (f (take i xs) x) (along f (take (i + 1) xs) (drop (i + 1) xs)) e t)

  pub along_all : (rule : Rule) → along f [] xs ≡ along f (take i xs) (drop i xs) → length xs ≤ i → Reports rule (along f [] xs) (Ok tt)
  along_all rule so_far l = record { answer = so_far ∙ ap (along f (take i xs)) (drop_all i xs l) }

module _ {A B : Type 0} (f : B → List ℕ) (g : A → B) (xs : List A) (i : ℕ) where
  -- the same of a rule that is asked of what contracts see of the parts
  pub fault_seen : (rule : Rule) (x : A) (e : errors.LoadError) → flat_map f (map g (take i xs)) ≡ [] → i < length xs → x ≡ get_or xs i x → Reports rule (f (g x)) (Err e) → Reports rule (flat_map f (map g xs)) (Err e)
  fault_seen rule x e kept l at t = subst (λ ps. Reports rule ps (Err e)) (sym (flat_map-map f g xs)) (fault_more (λ y. f (g y)) xs i rule x e (sym (flat_map-map f g (take i xs)) ∙ kept) l at t)
