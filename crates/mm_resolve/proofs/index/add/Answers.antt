use Rattle.std.proofs.Common.{◌≡◌, ◌&&◌, ℕ, List, Bool, true, false, cond, Option, Some, None, is_some, refl, sym, ◌∙◌, ap, Bor}
use Rattle.std.specs.Option.{option_map, option_or}
use Rattle.std.specs.Str.{bytes_eq}
use Rattle.indexmap.specs.IndexMap.{get_by}
use Rattle.mm_definitions.specs.declared.kinds.Kind as kinds
use Rattle.mm_definitions.specs.declared.named.Named.{Named}
use Rattle.mm_definitions.specs.contracts.kinds.KindPartialEq.TheImpl as kind_eq
use Rattle.mm_resolve.specs.declared.index.Key.{Key}
use Rattle.mm_resolve.specs.contracts.index.KeyPartialEq.TheImpl as key_eq
use Rattle.mm_resolve.specs.contracts.index.KeyEq.TheImpl.Laws.{laws-law}
use Rattle.mm_resolve.specs.Resolving.{is_named, look_up}
use Rattle.mm_resolve.proofs.FirstLemmas.{first_kept, first_added}
use Rattle.mm_resolve.proofs.index.add.Goals as goal

option_map-cond : (f : Bor Named → Named) (b : Bool) (x : Bor Named) (o : Option (Bor Named)) → option_map f (cond b (Some x) o) ≡ cond b (Some (f x)) (option_map f o)
option_map-cond f true x o = refl
option_map-cond f false x o = refl

is_some-map : (f : Bor Named → Named) (o : Option (Bor Named)) → is_some (option_map f o) ≡ is_some o
is_some-map f None = refl
is_some-map f (Some x) = refl

pub returns : goal.returns
returns c = λ kind path.
    let m = c.args.index.now in
    let name = c.args.named.now in
    let q : Key = record { kind = kind; path = record { ref_ptr = c.as_slice.result.ref_ptr; now = path } } in
    let key : Key = record { kind = name.kind; path = c.as_slice.result } in
    let old : Key → Option Named = λ k. option_map (λ d. d.now) (get_by ((key_eq.ghosts).eq k) m) in
    let new : Key → Option Named = λ k. option_map (λ d. d.now) (get_by ((key_eq.ghosts).eq k) c.insert.new.self) in
    let respects : (a b : Key) → (key_eq.ghosts).eq a b ≡ true → old a ≡ old b = λ a b is. ap (λ test. option_map (λ d. d.now) (get_by test m)) (λ i x. laws-law.congr a b x is i) in
    let absent : is_some (old key) ≡ false = is_some-map (λ d. d.now) (get_by ((key_eq.ghosts).eq key) m) ∙ sym c.contains_key.ensures ∙ c.if-contains_key.false in
    let after : (k : Key) → new k ≡ cond ((key_eq.ghosts).eq key k) (Some name) (old k) = λ k. ap (option_map (λ d. d.now)) (c.in_ok-insert.ensures.updates.0 k) ∙ option_map-cond (λ d. d.now) ((key_eq.ghosts).eq key k) c.args.named (get_by ((key_eq.ghosts).eq k) m) in
    first_added (key_eq.ghosts).eq laws-law old respects key name absent new after q
    ∙ ap (λ text. option_or (look_up m kind path) (cond ((kind_eq.ghosts).eq kind name.kind && bytes_eq path text) (Some name) None)) c.as_slice.ensures
