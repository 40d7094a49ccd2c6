-- The candidates of the first blocks, and one block more.
use Rattle.std.proofs.Common.{◌≡◌, ℕ, ◌+◌, ◌<◌, ◌≤◌, Bool, true, false, not, cond, List, [], ◌∷◌, ◌++◌, Some, length, map, get_or, slice_get, append-nil, Option, sym, ap, subst, ◌∙◌}
use Rattle.std.specs.Prelude.{filter, flat_map}
use Rattle.std.proofs.lemmas.List.{map-append, take_all}
use Rattle.std.proofs.lemmas.List.Elements.{filter-append}
use Rattle.mm_terms.specs.declared.ids.DefId.{DefId}
use Rattle.mm_terms.specs.declared.tree.Tree.{Tree}
use Rattle.mm_terms.specs.declared.item.Item.{Item}
use Rattle.mm_terms.specs.declared.item.Item.TheVariants.{Fn}
use Rattle.mm_plain.specs.declared.over.Over.{Over}
use Rattle.mm_plain.specs.declared.program.Program.{Program}
use Rattle.mm_plain.specs.declared.program.Function.{Function}
use Rattle.mm_plain.specs.declared.program.Block.{Block}
use Rattle.mm_plain.specs.declared.program.Call.{Call}
use Rattle.mm_plain.specs.Uses.{end_calls, called, body_candidates, candidates_of, is_within, uses_of, note_of, notes_of}
use Rattle.mm_collect.specs.declared.uses.Candidate.TheVariants as candidate
use Rattle.mm_collect.specs.Candidates.{Judges}
use Rattle.mm_plain.specs.Notes.{IsLeast}
use Rattle.mm_collect.proofs.NoteLemmas.{least_one}
use Rattle.mm_collect.proofs.RootLemmas.{first_calls, more_calls}

-- the candidates of the first n blocks
abbrev pub first_candidates : List Tree → List Block → ℕ → List Item
first_candidates args blocks n = map (called args) (first_calls blocks n)

-- those of them that are used, and the notes of the others
abbrev pub first_uses : ℕ → List Tree → List Block → ℕ → List Item
first_uses limit args blocks n = filter (is_within limit) (first_candidates args blocks n)

abbrev pub first_notes : Program → ℕ → List Tree → List Block → ℕ → List Over
first_notes p limit args blocks n = map (note_of p) (filter (λ y. not (is_within limit y)) (first_candidates args blocks n))

-- one block more
more_candidates : (args : List Tree) (blocks : List Block) (n : ℕ) (block : Block) → n < length blocks → block ≡ get_or blocks n block → first_candidates args blocks (n + 1) ≡ first_candidates args blocks n ++ map (called args) (end_calls block.end)
more_candidates args blocks n block within is =
    ap (map (called args)) (more_calls blocks n block within is) ∙ map-append (called args) (first_calls blocks n) (end_calls block.end)

filter_one : (test : Item → Bool) (xs : List Item) (x : Item) (b : Bool) → test x ≡ b → filter test (xs ++ x ∷ []) ≡ filter test xs ++ cond b (x ∷ []) []
filter_one test xs x b is = filter-append test xs (x ∷ []) ∙ ap (λ c. filter test xs ++ cond c (x ∷ []) []) is

module _ (p : Program) (limit : ℕ) (args : List Tree) (blocks : List Block) (n : ℕ) (block : Block) (within : n < length blocks) (is : block ≡ get_or blocks n block) where
  -- a block without a call
  same_candidates : end_calls block.end ≡ [] → first_candidates args blocks (n + 1) ≡ first_candidates args blocks n
  same_candidates none =
      more_candidates args blocks n block within is
      ∙ ap (λ calls. first_candidates args blocks n ++ map (called args) calls) none
      ∙ append-nil (first_candidates args blocks n)

  pub none_used : end_calls block.end ≡ [] → first_uses limit args blocks (n + 1) ≡ first_uses limit args blocks n
  none_used none = ap (filter (is_within limit)) (same_candidates none)

  pub none_noted : end_calls block.end ≡ [] → first_notes p limit args blocks (n + 1) ≡ first_notes p limit args blocks n
  none_noted none = ap (λ cs. map (note_of p) (filter (λ y. not (is_within limit y)) cs)) (same_candidates none)

  module _ (call : Call) (ends : end_calls block.end ≡ call ∷ []) where
    one_candidate : first_candidates args blocks (n + 1) ≡ first_candidates args blocks n ++ called args call ∷ []
    one_candidate = more_candidates args blocks n block within is ∙ ap (λ calls. first_candidates args blocks n ++ map (called args) calls) ends

    uses_by : (b : Bool) → is_within limit (called args call) ≡ b → first_uses limit args blocks (n + 1) ≡ first_uses limit args blocks n ++ cond b (called args call ∷ []) []
    uses_by b fits = ap (filter (is_within limit)) one_candidate ∙ filter_one (is_within limit) (first_candidates args blocks n) (called args call) b fits

    notes_by : (b : Bool) → is_within limit (called args call) ≡ b → first_notes p limit args blocks (n + 1) ≡ first_notes p limit args blocks n ++ map (note_of p) (cond (not b) (called args call ∷ []) [])
    notes_by b fits =
        let Long : Item → Bool = λ y. not (is_within limit y) in
        ap (λ cs. map (note_of p) (filter Long cs)) one_candidate
        ∙ ap (map (note_of p)) (filter_one Long (first_candidates args blocks n) (called args call) (not b) (ap not fits))
        ∙ map-append (note_of p) (filter Long (first_candidates args blocks n)) (cond (not b) (called args call ∷ []) [])

    -- a call that resolves to an item within the limit
    pub one_used : is_within limit (called args call) ≡ true → first_uses limit args blocks (n + 1) ≡ first_uses limit args blocks n ++ called args call ∷ []
    one_used = uses_by true

    pub used_not_noted : is_within limit (called args call) ≡ true → first_notes p limit args blocks (n + 1) ≡ first_notes p limit args blocks n
    used_not_noted fits = notes_by true fits ∙ append-nil (first_notes p limit args blocks n)

    -- a call that resolves to an item that is too long
    pub one_noted : is_within limit (called args call) ≡ false → first_notes p limit args blocks (n + 1) ≡ first_notes p limit args blocks n ++ note_of p (called args call) ∷ []
    one_noted = notes_by false

    pub noted_not_used : is_within limit (called args call) ≡ false → first_uses limit args blocks (n + 1) ≡ first_uses limit args blocks n
    noted_not_used fits = uses_by false fits ∙ append-nil (first_uses limit args blocks n)

-- what is used in the first n blocks, and the least of what is noted there
abbrev pub Scanned : Program → ℕ → List Tree → List Block → ℕ → List Item → Option Over → Type 0
Scanned p limit args blocks n used least = (used ≡ first_uses limit args blocks n) × IsLeast (first_notes p limit args blocks n) least

module _ (p : Program) (limit : ℕ) (args : List Tree) (blocks : List Block) (n : ℕ) (used new : List Item) (least now : Option Over) (scanned : Scanned p limit args blocks n used least)
    (block : Block) (within : n < length blocks) (is : block ≡ get_or blocks n block) where
  pub scanned_none : end_calls block.end ≡ [] → new ≡ used → now ≡ least → Scanned p limit args blocks (n + 1) new now
  scanned_none none same kept = (
    same ∙ scanned.0 ∙ sym (none_used p limit args blocks n block within is none),
    subst (λ notes. IsLeast notes now) (sym (none_noted p limit args blocks n block within is none)) (subst (IsLeast (first_notes p limit args blocks n)) (sym kept) scanned.1),
  )

  module _ (call : Call) (ends : end_calls block.end ≡ call ∷ []) where
    pub scanned_within : (item : Item) → Judges p limit (called args call) (candidate.Within item) → new ≡ used ++ item ∷ [] → now ≡ least → Scanned p limit args blocks (n + 1) new now
    scanned_within item judged pushed kept = (
      pushed ∙ (λ i. scanned.0 i ++ judged.1 i ∷ []) ∙ sym (one_used p limit args blocks n block within is call ends judged.0),
      subst (λ notes. IsLeast notes now) (sym (used_not_noted p limit args blocks n block within is call ends judged.0)) (subst (IsLeast (first_notes p limit args blocks n)) (sym kept) scanned.1),
    )

    pub scanned_over : (note : Over) → Judges p limit (called args call) (candidate.Over note) → new ≡ used → ((notes others : List Over) → IsLeast notes least → IsLeast others (Some note) → IsLeast (notes ++ others) now) → Scanned p limit args blocks (n + 1) new now
    scanned_over note judged same both = (
      same ∙ scanned.0 ∙ sym (noted_not_used p limit args blocks n block within is call ends judged.0),
      subst (λ notes. IsLeast notes now)
          (ap (λ y. first_notes p limit args blocks n ++ y ∷ []) judged.1 ∙ sym (one_noted p limit args blocks n block within is call ends judged.0))
          (both (first_notes p limit args blocks n) (note ∷ []) scanned.1 (least_one note)),
    )

-- past the last block the candidates are all there
module _ (p : Program) (limit : ℕ) (x : Item) (d : DefId) (args : List Tree) (f : Function) (blocks : List Block) (n : ℕ) (is : x ≡ Fn d args) (at : slice_get p.functions d.0 ≡ Some f) (same : blocks ≡ f.blocks) (past : length blocks ≤ n) where
  all_candidates : first_candidates args blocks n ≡ candidates_of p x
  all_candidates =
      ap (λ all. map (called args) (flat_map (λ block. end_calls block.end) all)) (take_all n blocks past ∙ same)
      ∙ ap (body_candidates args) (sym at)
      ∙ ap (candidates_of p) (sym is)

  pub all_uses : first_uses limit args blocks n ≡ uses_of p limit x
  all_uses = ap (filter (is_within limit)) all_candidates

  pub all_notes : first_notes p limit args blocks n ≡ notes_of p limit x
  all_notes = ap (λ cs. map (note_of p) (filter (λ y. not (is_within limit y)) cs)) all_candidates
