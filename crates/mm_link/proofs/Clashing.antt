-- The clashes that an index tells of are clashes, and among them is one that is no greater than any clash.
use Rattle.std.specs.Prelude.{◌≡◌, ◌≢◌, ◌⊎◌, ℕ, ◌+◌, ◌<◌, ◌≤◌, ◌==◌, ◌&&◌, Bool, true, false, cond, List, [], ◌∷◌, All, Contains, flat_map, map, get_or, Option, None, Some}
use Rattle.std.specs.Cmp.{nat_cmp_is}
use Rattle.std.specs.List.{enumerate_from, find}
use Rattle.std.specs.Ordering.{is_lt, nat_cmp, ordering_then}
use Rattle.std.specs.Option.{option_map, option_or}
use Rattle.std.specs.declared.cmp.Ordering.{Ordering}
use Rattle.std.specs.declared.cmp.Ordering.TheVariants.{Less, Equal, Greater}
use Rattle.std.proofs.Common.{◌∙◌, refl, sym, ap, subst, arith, inl, inr, ⊎_elim}
use Rattle.std.proofs.lemmas.List.Elements.{Contains-append_left, Contains-append_right, Contains-append_cases}
use Rattle.std.proofs.lemmas.Slice.Eq.{bytes_eq-Decides}
use Rattle.mm_objects.specs.declared.objects.ObjDef.{ObjDef}
use Rattle.mm_objects.specs.declared.objects.ObjUnit.{ObjUnit}
use Rattle.mm_objects.specs.Resolution.{Placed, defines, is_own, is_shared, placed, placed_in, symbol_of, target_of, shared_in}
use Rattle.mm_objects.specs.declared.target.Target.{Target}
use Rattle.mm_link.specs.Clashes.{IsLeast}
use Rattle.mm_link.specs.Index.{open_in, own_in, placed_at}
use Rattle.mm_link.specs.Linking.{earlier, reported}
use Rattle.mm_objects.specs.Linking.{HasNoClash, IsClash, clash_cmp, is_open, target_cmp}
use Rattle.mm_objects.specs.declared.target.Clash.{Clash}
use Rattle.std.proofs.Math.Bool.{false≢true}
use Rattle.std.proofs.lemmas.Cmp.{nat_list_cmp_total, ranked}
use Rattle.std.specs.Cmp.Lexicographic.{slice_cmp}
use Rattle.mm_link.proofs.Finding.{same_number}
use Rattle.mm_terms.proofs.ListLemmas.{find-append, Contains-here, Contains-cons_cases, Contains-nil, find-Some, find-None, Contains-from_flat_map, Contains-flat_map, and_left, and_right, and_true}
use Rattle.mm_link.proofs.Least.{clash_cmp_total, target_cmp_total, not_less_itself, less_via, less_through, equal_itself, is_lt_less, less_is_lt}

-- ---- lists

found_or_none : {X : Type 0} (o : Option X) → ((x : X) × (o ≡ Some x)) ⊎ (o ≡ None)
found_or_none None = inr refl
found_or_none (Some x) = inl (x, refl)

-- ---- definitions stand in the order of the text

not_before : (t u : Target) → (u.unit < t.unit) ⊎ ((t.unit ≡ u.unit) × (u.def ≤ t.def)) → target_cmp t u ≢ Less
not_before t u how lt =
    ⊎_elim
    (λ l. absurd (cc (ap (λ r. ordering_then r (nat_cmp t.def u.def)) (nat_cmp_is t.unit u.unit Greater l) ∙ lt)))
    (λ both.
    let first : nat_cmp t.unit u.unit ≡ Equal = sym (nat_cmp_is t.unit u.unit Equal both.0) in
    let second : nat_cmp t.def u.def ≡ Less = ap (λ r. ordering_then r (nat_cmp t.def u.def)) (sym first) ∙ lt in
    let under : t.def < u.def = ranked t.def u.def Less (sym second) in
    omega (arith, under, both.1))
    how

position_bounds : (n m : ℕ) (ds : List ObjDef) (c : Placed) → Contains (map (placed_at n) (enumerate_from m ds)) c → (c.unit ≡ n) × (m ≤ c.number)
position_bounds n m [] c has = absurd (Contains-nil c has)
position_bounds n m (d ∷ ds) c has =
    ⊎_elim (λ e. (sym (ap (λ one. one.unit) e), let k : m ≡ c.number = ap (λ one. one.number) e in omega (arith, k)))
    (λ rest. let bounds = position_bounds n (m + 1) ds c rest in (bounds.0, omega (arith, bounds.1)))
    (Contains-cons_cases (placed_at n (m, d)) (map (placed_at n) (enumerate_from (m + 1) ds)) c has)

unit_bounds : (n : ℕ) (us : List ObjUnit) (c : Placed) → Contains (flat_map placed_in (enumerate_from n us)) c → n ≤ c.unit
unit_bounds n [] c has = absurd (Contains-nil c has)
unit_bounds n (u ∷ us) c has =
    ⊎_elim (λ l. let e = (position_bounds n 0 u.defs c l).0 in omega (arith, e))
    (λ r. let le = unit_bounds (n + 1) us c r in omega (arith, le))
    (Contains-append_cases (placed_in (n, u)) (flat_map placed_in (enumerate_from (n + 1) us)) c has)

module _ (p : Placed → Bool) where
  -- the first of a unit that passes is before no other
  first_of_unit : (n m : ℕ) (ds : List ObjDef) (e c : Placed) → find p (map (placed_at n) (enumerate_from m ds)) ≡ Some e → Contains (map (placed_at n) (enumerate_from m ds)) c → p c ≡ true → target_cmp (target_of c) (target_of e) ≢ Less
  first_of_unit n m [] e c f has t = absurd (Contains-nil c has)
  first_of_unit n m (d ∷ ds) e c f has t = at (first_of_unit n (m + 1) ds e c) (p (placed_at n (m, d))) refl f
    where
      rest : List Placed
      rest = map (placed_at n) (enumerate_from (m + 1) ds)

      at : (find p rest ≡ Some e → Contains rest c → p c ≡ true → target_cmp (target_of c) (target_of e) ≢ Less) → (b : Bool) → p (placed_at n (m, d)) ≡ b → cond b (Some (placed_at n (m, d))) (find p rest) ≡ Some e → target_cmp (target_of c) (target_of e) ≢ Less
      at again true s g =
          let is : placed_at n (m, d) ≡ e = cc g in
          subst (λ one. target_cmp (target_of c) (target_of one) ≢ Less) is
          (⊎_elim
          (λ q. subst (λ one. target_cmp (target_of one) (target_of (placed_at n (m, d))) ≢ Less) q (not_less_itself target_cmp target_cmp_total (target_of (placed_at n (m, d)))))
          (λ behind. let bounds = position_bounds n (m + 1) ds c behind in not_before (target_of c) (target_of (placed_at n (m, d))) (inr (bounds.0, omega (arith, bounds.1))))
          (Contains-cons_cases (placed_at n (m, d)) rest c has))
      at again false s g = ⊎_elim (λ q. absurd (false≢true (sym s ∙ ap p q ∙ t))) (λ behind. again g behind t) (Contains-cons_cases (placed_at n (m, d)) rest c has)

  -- the first of all that passes is before no other
  first_of_all : (n : ℕ) (us : List ObjUnit) (e c : Placed) → find p (flat_map placed_in (enumerate_from n us)) ≡ Some e → Contains (flat_map placed_in (enumerate_from n us)) c → p c ≡ true → target_cmp (target_of c) (target_of e) ≢ Less
  first_of_all n [] e c f has t = absurd (Contains-nil c has)
  first_of_all n (u ∷ us) e c f has t =
      at (first_of_all (n + 1) us e c) (find p here) refl (sym (find-append p here rest) ∙ f)
    where
      here : List Placed
      here = placed_in (n, u)

      rest : List Placed
      rest = flat_map placed_in (enumerate_from (n + 1) us)

      at : (find p rest ≡ Some e → Contains rest c → p c ≡ true → target_cmp (target_of c) (target_of e) ≢ Less) → (o : Option Placed) → find p here ≡ o → option_or o (find p rest) ≡ Some e → target_cmp (target_of c) (target_of e) ≢ Less
      at again None s g = ⊎_elim (λ l. absurd (find-None p here c s l t)) (λ r. again g r t) (Contains-append_cases here rest c has)
      at again (Some x) s g =
          let is : x ≡ e = cc g in
          let found : find p here ≡ Some e = s ∙ ap (λ y. Some y) is in
          ⊎_elim (λ l. first_of_unit n 0 u.defs e c found l t)
          (λ r.
          let le = unit_bounds (n + 1) us c r in
          let at_unit = (position_bounds n 0 u.defs e (find-Some p here e found).0).0 in
          not_before (target_of c) (target_of e) (inl (omega (arith, le, at_unit))))
          (Contains-append_cases here rest c has)

-- ---- what the index tells

-- the clash of a definition with another
abbrev clash_of : Placed → Placed → Clash
clash_of e b = record { symbol = symbol_of b.def; first = target_of e; second = target_of b }

-- what is reported of what is found
earlier_is : (o : Option Placed) (b : Placed) (x : Clash) → Contains (earlier (option_map target_of o) (symbol_of b.def) (target_of b)) x → (e : Placed) × (o ≡ Some e) × (clash_of e b ≡ x) × (target_cmp (target_of e) (target_of b) ≡ Less)
earlier_is None b x has = absurd (Contains-nil x has)
earlier_is (Some e) b x has = at (is_lt (target_cmp (target_of e) (target_of b))) refl has
  where
    at : (t : Bool) → is_lt (target_cmp (target_of e) (target_of b)) ≡ t → Contains (cond t (clash_of e b ∷ []) []) x → (d : Placed) × (Some e ≡ Some d) × (clash_of d b ≡ x) × (target_cmp (target_of d) (target_of b) ≡ Less)
    at true s h = ⊎_elim (λ q. (e, refl, q, less_is_lt (target_cmp (target_of e) (target_of b)) s)) (λ rest. absurd (Contains-nil x rest)) (Contains-cons_cases (clash_of e b) [] x h)
    at false s h = absurd (Contains-nil x h)

earlier_has : (o : Option Placed) (b e : Placed) → o ≡ Some e → target_cmp (target_of e) (target_of b) ≡ Less → Contains (earlier (option_map target_of o) (symbol_of b.def) (target_of b)) (clash_of e b)
earlier_has o b e is lt =
    subst (λ q. Contains (earlier (option_map target_of q) (symbol_of b.def) (target_of b)) (clash_of e b)) (sym is)
    (subst (λ t. Contains (cond t (clash_of e b ∷ []) []) (clash_of e b)) (sym (is_lt_less (target_cmp (target_of e) (target_of b)) lt)) (Contains-here (clash_of e b) []))

both_true : (a b : Bool) → a && b ≡ true → (a ≡ true) × (b ≡ true)
both_true a b both = (and_left a b both, and_right a b both)

in_parts : (a b c : Ordering) → a ≡ Equal → b ≢ Less → c ≡ Equal → ordering_then a (ordering_then b c) ≢ Less
in_parts a Less c e n f lt = n refl
in_parts a Equal c e n f lt = absurd (cc (sym f ∙ ap (λ r. ordering_then r c) (sym e) ∙ lt))
in_parts a Greater c e n f lt = absurd (cc (ap (λ r. ordering_then r Greater) (sym e) ∙ lt))

ordered : {us : List ObjUnit} {y : Clash} (c : IsClash us y) → target_cmp (target_of c.first) (target_of c.second) ≡ Less
ordered c = ap (λ t. target_cmp t (target_of c.second)) (sym c.first_at) ∙ ap (target_cmp _) (sym c.second_at) ∙ c.before

module _ (us : List ObjUnit) where
  -- what is reported is a clash

  own_reported : (b : Placed) (x : Clash) → Contains (placed us) b → Contains (earlier (own_in us b.unit (symbol_of b.def)) (symbol_of b.def) (target_of b)) x → IsClash us x
  own_reported b x b_in has =
      let symbol = symbol_of b.def in
      let it = earlier_is (find (is_own b.unit symbol) (placed us)) b x has in
      let found = find-Some (is_own b.unit symbol) (placed us) it.0 it.1 in
      let parts = both_true (it.0.unit == b.unit) (defines symbol it.0) found.1 in
      let same_unit : it.0.unit ≡ b.unit = grind (arith, parts.0) in
      subst (IsClash us) it.2 (record {
        first = it.0;
        second = b;
        first_in = found.0;
        second_in = b_in;
        first_at = refl;
        second_at = refl;
        first_symbol = (bytes_eq-Decides (symbol_of it.0.def) symbol).0 parts.1;
        second_symbol = refl;
        before = it.3;
        both = inl same_unit;
      })

  open_reported : (b : Placed) (x : Clash) → Contains (placed us) b → Contains (earlier (open_in us b.def) (symbol_of b.def) (target_of b)) x → IsClash us x
  open_reported b x b_in has = at (is_open b) refl has
    where
      symbol : List ℕ
      symbol = symbol_of b.def

      at : (t : Bool) → is_open b ≡ t → Contains (earlier (cond t (shared_in us symbol) None) symbol (target_of b)) x → IsClash us x
      at false s h = absurd (Contains-nil x h)
      at true s h =
          let it = earlier_is (find (is_shared symbol) (placed us)) b x h in
          let found = find-Some (is_shared symbol) (placed us) it.0 it.1 in
          let parts = both_true (is_open it.0) (defines symbol it.0) found.1 in
          subst (IsClash us) it.2 (record {
            first = it.0;
            second = b;
            first_in = found.0;
            second_in = b_in;
            first_at = refl;
            second_at = refl;
            first_symbol = (bytes_eq-Decides (symbol_of it.0.def) symbol).0 parts.1;
            second_symbol = refl;
            before = it.3;
            both = inr (parts.0, s);
          })

  pub reported_is : (x : Clash) → Contains (flat_map (reported us) (placed us)) x → IsClash us x
  reported_is x has =
      let of = Contains-from_flat_map (reported us) (placed us) x has in
      ⊎_elim (λ l. own_reported of.0 x of.1 l) (λ r. open_reported of.0 x of.1 r)
      (Contains-append_cases (earlier (own_in us of.0.unit (symbol_of of.0.def)) (symbol_of of.0.def) (target_of of.0)) (earlier (open_in us of.0.def) (symbol_of of.0.def) (target_of of.0)) x of.2)

  -- among what is reported is a clash that is not above one
  pub record NotAbove (y : Clash) : Type 0 where
    pub reported_one : Clash
    pub among : Contains (flat_map (reported us) (placed us)) reported_one
    pub not_above : clash_cmp y reported_one ≢ Less

  not_less_parts : (y : Clash) (e b : Placed) → y.symbol ≡ symbol_of b.def → y.second ≡ target_of b → target_cmp y.first (target_of e) ≢ Less → clash_cmp y (clash_of e b) ≢ Less
  not_less_parts y e b s t n =
      in_parts (slice_cmp nat_cmp y.symbol (symbol_of b.def)) (target_cmp y.first (target_of e)) (target_cmp y.second (target_of b))
      (ap (λ l. slice_cmp nat_cmp l (symbol_of b.def)) s ∙ equal_itself (slice_cmp nat_cmp) nat_list_cmp_total (symbol_of b.def))
      n
      (ap (λ l. target_cmp l (target_of b)) t ∙ equal_itself target_cmp target_cmp_total (target_of b))

  by_first : (y : Clash) (c : IsClash us y) (p : Placed → Bool) (o : Option Placed) → find p (placed us) ≡ o → p c.first ≡ true → ((e : Placed) → Contains (earlier (option_map target_of o) (symbol_of c.second.def) (target_of c.second)) (clash_of e c.second) → Contains (reported us c.second) (clash_of e c.second)) → NotAbove y
  by_first y c p None is passes into = absurd (find-None p (placed us) c.first is c.first_in passes)
  by_first y c p (Some e) is passes into =
      let not_earlier : target_cmp (target_of c.first) (target_of e) ≢ Less = first_of_all p 0 us e c.first is c.first_in passes in
      let before : target_cmp (target_of c.first) (target_of c.second) ≡ Less = ordered c in
      let lt : target_cmp (target_of e) (target_of c.second) ≡ Less = less_via target_cmp target_cmp_total (target_of c.first) (target_of c.second) (target_of e) before not_earlier in
      record {
        reported_one = clash_of e c.second;
        among = Contains-flat_map (reported us) (placed us) c.second (clash_of e c.second) c.second_in (into e (earlier_has (Some e) c.second e refl lt));
        not_above = not_less_parts y e c.second (sym c.second_symbol) c.second_at (subst (λ t. target_cmp t (target_of e) ≢ Less) (sym c.first_at) not_earlier);
      }

  -- the first own definition, or the first that is open, makes a clash that is reported
  pub not_above_all : (y : Clash) → IsClash us y → NotAbove y
  not_above_all y c =
      let symbol = symbol_of c.second.def in
      let own = earlier (own_in us c.second.unit symbol) symbol (target_of c.second) in
      let open' = earlier (open_in us c.second.def) symbol (target_of c.second) in
      let named : defines symbol c.first ≡ true = (bytes_eq-Decides (symbol_of c.first.def) symbol).1 (c.first_symbol ∙ sym c.second_symbol) in
      ⊎_elim
      (λ same. by_first y c (is_own c.second.unit symbol) (find (is_own c.second.unit symbol) (placed us)) refl
      (and_true (c.first.unit == c.second.unit) (defines symbol c.first) (same_number c.first.unit c.second.unit same) named)
      (λ e has. Contains-append_left own open' (clash_of e c.second) has))
      (λ opened. by_first y c (is_shared symbol) (find (is_shared symbol) (placed us)) refl
      (and_true (is_open c.first) (defines symbol c.first) opened.0 named)
      (λ e has. Contains-append_right own open' (clash_of e c.second)
      (subst (λ b. Contains (earlier (cond b (shared_in us symbol) None) symbol (target_of c.second)) (clash_of e c.second)) (sym opened.1) has)))
      c.both

  -- where nothing is reported, there is no clash
  pub none_reported : flat_map (reported us) (placed us) ≡ [] → HasNoClash us
  none_reported none y c = Contains-nil (not_above_all y c).reported_one (subst (λ l. Contains l (not_above_all y c).reported_one) none (not_above_all y c).among)

  -- the least of what is reported is the least of all
  pub least_reported : (x : Clash) → Contains (flat_map (reported us) (placed us)) x → All (λ z. clash_cmp z x ≢ Less) (flat_map (reported us) (placed us)) → (y : Clash) → IsClash us y → clash_cmp y x ≢ Less
  least_reported x has all y c lt =
      let near = not_above_all y c in
      near.not_above (less_through clash_cmp clash_cmp_total y x near.reported_one lt (at_position near.among all))
    where
      at_position : {z : Clash} → Contains (flat_map (reported us) (placed us)) z → All (λ z. clash_cmp z x ≢ Less) (flat_map (reported us) (placed us)) → clash_cmp z x ≢ Less
      at_position {z} in_all each = subst (λ w. clash_cmp w x ≢ Less) in_all.2 (each in_all.0 z in_all.1)

-- the least of a list of what is reported
pub least_of_reported : (us : List ObjUnit) (xs : List Clash) (n : ℕ) (x : Clash) → xs ≡ flat_map (reported us) (placed us) → IsLeast xs (Some n) → x ≡ get_or xs n x → IsClash us x × ((y : Clash) → IsClash us y → clash_cmp y x ≢ Less)
least_of_reported us xs n x is least at =
    let has : Contains (flat_map (reported us) (placed us)) x = subst (λ l. Contains l x) is (n, least.0, sym at) in
    let all : All (λ z. clash_cmp z x ≢ Less) (flat_map (reported us) (placed us)) =
    subst (λ l. All (λ z. clash_cmp z x ≢ Less) l) is (subst (λ w. All (λ z. clash_cmp z w ≢ Less) xs) (sym at) (least.1 x)) in
    (reported_is us x has, least_reported us x has all)
