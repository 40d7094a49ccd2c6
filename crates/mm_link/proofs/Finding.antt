-- What the index finds is what a reference names.
use Rattle.std.specs.Prelude.{◌≡◌, ◌≢◌, ℕ, zero, suc, ◌+◌, ◌<◌, ◌==◌, ◌&&◌, true, false, cond, List, [], ◌∷◌, map, flat_map, Option, None, Some, slice_get}
use Rattle.std.specs.Global.{Vec}
use Rattle.std.specs.HashMap.{HashMap}
use Rattle.std.specs.List.{enumerate_from, find}
use Rattle.std.specs.Option.{option_map, option_or}
use Rattle.std.proofs.Common.{◌∙◌, refl, sym, ap, arith}
use Rattle.std.proofs.lemmas.Option.{slice_get-map}
use Rattle.mm_objects.specs.declared.objects.ObjDef.{ObjDef}
use Rattle.mm_objects.specs.declared.objects.ObjUnit.{ObjUnit}
use Rattle.mm_objects.specs.Resolution.{defines, is_own, is_shared, placed, placed_in, resolve, find_in, target_of, shared_in}
use Rattle.mm_objects.specs.declared.target.Target.{Target}
use Rattle.mm_link.specs.Index.{look_up, look_up_if, own_in, own_names, placed_at}
use Rattle.mm_link.proofs.Names.{map_or, or_none}
use Rattle.mm_terms.proofs.ListLemmas.{find-append}

pub same_number : (n m : ℕ) → n ≡ m → (n == m) ≡ true
same_number n m e = grind (arith, e)

other_number : (n m : ℕ) → n ≢ m → (n == m) ≡ false
other_number n m e = grind (arith, e)

-- in the unit itself, its own definitions are all
own_here : (unit n : ℕ) (s : List ℕ) (ds : List (ℕ × ObjDef)) → n ≡ unit → find (is_own unit s) (map (placed_at n) ds) ≡ find (defines s) (map (placed_at n) ds)
own_here unit n s [] e = refl
own_here unit n s (d ∷ ds) e =
    ap (λ b. cond (b && defines s (placed_at n d)) (Some (placed_at n d)) (find (is_own unit s) (map (placed_at n) ds))) (same_number n unit e)
    ∙ ap (cond (defines s (placed_at n d)) (Some (placed_at n d))) (own_here unit n s ds e)

-- in another unit there are none
own_elsewhere : (unit n : ℕ) (s : List ℕ) (ds : List (ℕ × ObjDef)) → n ≢ unit → find (is_own unit s) (map (placed_at n) ds) ≡ None
own_elsewhere unit n s [] e = refl
own_elsewhere unit n s (d ∷ ds) e =
    ap (λ b. cond (b && defines s (placed_at n d)) (Some (placed_at n d)) (find (is_own unit s) (map (placed_at n) ds))) (other_number n unit e)
    ∙ own_elsewhere unit n s ds e

own_behind : (unit n : ℕ) (s : List ℕ) (us : List ObjUnit) → unit < n → find (is_own unit s) (flat_map placed_in (enumerate_from n us)) ≡ None
own_behind unit n s [] lt = refl
own_behind unit n s (u ∷ us) lt =
    find-append (is_own unit s) (placed_in (n, u)) (flat_map placed_in (enumerate_from (n + 1) us))
    ∙ ap (λ o. option_or o (find (is_own unit s) (flat_map placed_in (enumerate_from (n + 1) us)))) (own_elsewhere unit n s (enumerate_from 0 u.defs) (λ e. omega (arith, e, lt)))
    ∙ own_behind unit (n + 1) s us (omega arith)

-- the lookup of a symbol by names that may not be there
abbrev given : Option (List ℕ → Option Target) → List ℕ → Option Target
given None s = None
given (Some f) s = f s

own_at : (n : ℕ) (us : List ObjUnit) (k : ℕ) (s : List ℕ) → given (slice_get (own_names n us) k) s ≡ option_map target_of (find (is_own (n + k) s) (flat_map placed_in (enumerate_from n us)))
own_at n [] k s = refl
own_at n (u ∷ us) zero s =
    let rest = flat_map placed_in (enumerate_from (n + 1) us) in
    let e : n ≡ n + 0 = omega arith in
    ap (option_map target_of)
    (sym (own_here (n + 0) n s (enumerate_from 0 u.defs) e)
    ∙ sym (or_none (find (is_own (n + 0) s) (placed_in (n, u))))
    ∙ ap (option_or (find (is_own (n + 0) s) (placed_in (n, u)))) (sym (own_behind (n + 0) (n + 1) s us (omega arith)))
    ∙ sym (find-append (is_own (n + 0) s) (placed_in (n, u)) rest))
own_at n (u ∷ us) (suc k) s =
    let rest = flat_map placed_in (enumerate_from (n + 1) us) in
    let e : n + 1 + k ≡ n + suc k = omega arith in
    own_at (n + 1) us k s
    ∙ ap (λ m. option_map target_of (find (is_own m s) rest)) e
    ∙ ap (option_map target_of)
    (ap (λ o. option_or o (find (is_own (n + suc k) s) rest)) (sym (own_elsewhere (n + suc k) n s (enumerate_from 0 u.defs) (λ h. omega (arith, h))))
    ∙ sym (find-append (is_own (n + suc k) s) (placed_in (n, u)) rest))

module _ {S : Type 0} where
  given_if : (o : Option (HashMap (Vec ℕ) Target S)) (s : List ℕ) → look_up_if o s ≡ given (option_map look_up o) s
  given_if None s = refl
  given_if (Some m) s = refl

  pub own_found : (own : List (HashMap (Vec ℕ) Target S)) (us : List ObjUnit) → map look_up own ≡ own_names 0 us → (unit : ℕ) (s : List ℕ) → look_up_if (slice_get own unit) s ≡ own_in us unit s
  own_found own us is unit s =
      let e : 0 + unit ≡ unit = omega arith in
      given_if (slice_get own unit) s
      ∙ ap (λ o. given o s) (sym (slice_get-map look_up own unit) ∙ ap (λ l. slice_get l unit) is)
      ∙ own_at 0 us unit s ∙ ap (λ n. option_map target_of (find (is_own n s) (placed us))) e

-- the unit's own definition, else the shared one, is what a reference names
pub found : (us : List ObjUnit) (unit : ℕ) (s : List ℕ) → option_or (own_in us unit s) (shared_in us s) ≡ find_in us unit s
unfolding resolve
found us unit s = sym (map_or target_of (find (is_own unit s) (placed us)) (find (is_shared s) (placed us)))
