-- Notes of definitions, one after the other.
use Rattle.std.specs.Prelude.{◌≡◌, ℕ, ◌+◌, Bool, true, false, cond, List, [], ◌∷◌, ◌<◌, drop, get_or, length, map, flat_map, Option, None, Some}
use Rattle.std.specs.List.{enumerate_from, find}
use Rattle.std.specs.Option.{option_map, option_or}
use Rattle.std.proofs.Common.{◌∙◌, refl, sym, ap}
use Rattle.std.proofs.lemmas.List.{drop_more}
use Rattle.mm_objects.specs.declared.objects.ObjDef.{ObjDef}
use Rattle.mm_objects.specs.declared.objects.ObjUnit.{ObjUnit}
use Rattle.mm_objects.specs.Resolution.{is_shared, placed_in, target_of}
use Rattle.mm_objects.specs.declared.target.Target.{Target}
use Rattle.mm_link.specs.Index.{found_from, shared_from, passes, placed_at}
use Rattle.mm_terms.proofs.ListLemmas.{find-append}

-- ---- what may be found, and what else

pub or_or : {X : Type 0} (o p q : Option X) → option_or (option_or o p) q ≡ option_or o (option_or p q)
or_or None p q = refl
or_or (Some x) p q = refl

pub or_none : {X : Type 0} (o : Option X) → option_or o None ≡ o
or_none None = refl
or_none (Some x) = refl

first_or : {A X : Type 0} (f : A → X) (b : Bool) (a : A) (o : Option A) → option_map f (cond b (Some a) o) ≡ option_or (option_map f (cond b (Some a) None)) (option_map f o)
first_or f true a o = refl
first_or f false a o = refl

-- what one definition gives, and then the others
pub found_step : (shared : Bool) (unit n : ℕ) (d : ObjDef) (ds : List ObjDef) (s : List ℕ) → found_from shared unit n (d ∷ ds) s ≡ option_or (found_from shared unit n (d ∷ []) s) (found_from shared unit (n + 1) ds s)
found_step shared unit n d ds s =
    first_or target_of (passes shared s (placed_at unit (n, d))) (placed_at unit (n, d)) (find (passes shared s) (map (placed_at unit) (enumerate_from (n + 1) ds)))

pub map_or : {A X : Type 0} (f : A → X) (o q : Option A) → option_map f (option_or o q) ≡ option_or (option_map f o) (option_map f q)
map_or f None q = refl
map_or f (Some x) q = refl

-- what one unit gives, and then the others
pub shared_step : (n : ℕ) (u : ObjUnit) (us : List ObjUnit) (s : List ℕ) → shared_from n (u ∷ us) s ≡ option_or (found_from true n 0 u.defs s) (shared_from (n + 1) us s)
shared_step n u us s =
    ap (option_map target_of) (find-append (is_shared s) (placed_in (n, u)) (flat_map placed_in (enumerate_from (n + 1) us)))
    ∙ map_or target_of (find (is_shared s) (placed_in (n, u))) (find (is_shared s) (flat_map placed_in (enumerate_from (n + 1) us)))

-- what is noted of one unit is no longer to be given by the units that are left
pub share_more : (us : List ObjUnit) (n : ℕ) (u : ObjUnit) (old new all : List ℕ → Option Target) → n < length us → u ≡ get_or us n u → ((s : List ℕ) → new s ≡ option_or (old s) (found_from true n 0 u.defs s)) → ((s : List ℕ) → option_or (old s) (shared_from n (drop n us) s) ≡ all s) → (s : List ℕ) → option_or (new s) (shared_from (n + 1) (drop (n + 1) us) s) ≡ all s
share_more us n u old new all within at noted before s =
    let rest = shared_from (n + 1) (drop (n + 1) us) s in
    ap (λ o. option_or o rest) (noted s)
    ∙ or_or (old s) (found_from true n 0 u.defs s) rest
    ∙ ap (option_or (old s)) (sym (shared_step n u (drop (n + 1) us) s))
    ∙ ap (λ l. option_or (old s) (shared_from n l s)) (sym (drop_more us n u within ∙ ap (λ y. y ∷ drop (n + 1) us) (sym at)))
    ∙ before s
