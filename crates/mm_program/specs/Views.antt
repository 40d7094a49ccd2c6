-- What a program shows of its definitions.
use Rattle.std.specs.Prelude.{◌≡◌, ℕ, ◌<◌, Bool, true, false, nat_eq, List, [], length, map, filter, Option, None, Some, slice_get}
use Rattle.std.specs.List.{enumerate_from}
use Rattle.std.specs.Option.{option_map, option_map_or, option_and_then}
use Rattle.mm_terms.specs.declared.head.Head.{Head}
use Rattle.mm_terms.specs.declared.ids.CrateId.{CrateId}
use Rattle.mm_terms.specs.declared.ids.DefId.{DefId}
use Rattle.mm_terms.specs.declared.tree.Tree.{Tree}
use Rattle.mm_program.specs.declared.kind.DefKind.{DefKind}
use Rattle.mm_program.specs.declared.parts.DefPart.{DefPart}
use Rattle.mm_program.specs.declared.parts.Parts.{Parts}
use Rattle.mm_program.specs.declared.term.Term.{Term}
use Rattle.mm_program.specs.Code.{Code}

-- it is the id of a definition
abbrev pub IsDef : Parts → DefId → Type 0
IsDef p d = d.0 < length p.defs

-- the definition with an id
abbrev pub def_of : Parts → DefId → Option DefPart
def_of p d = slice_get p.defs d.0

-- what f says of the definition with an id, and `none` where there is no such definition
abbrev pub shown : {A : Type 0} → (DefPart → A) → A → Parts → DefId → A
shown f none p d = option_map_or f (def_of p d) none

abbrev pub kind_of : Parts → DefId → Option DefKind
kind_of = shown (λ part. Some part.kind) None

abbrev pub IsOfKind : Parts → DefId → DefKind → Type 0
IsOfKind p d kind = kind_of p d ≡ Some kind

-- its kind passes the test
abbrev pub IsOfKinds : Parts → DefId → (DefKind → Bool) → Type 0
IsOfKinds p d test = option_map test (kind_of p d) ≡ Some true

abbrev pub crate_of : Parts → DefId → Option CrateId
crate_of = shown (λ part. Some part.krate) None

abbrev pub crate_name : Parts → CrateId → Option (List ℕ)
crate_name p c = slice_get p.crates c.0

abbrev pub path_of : Parts → DefId → List ℕ
path_of = shown (λ part. part.path) []

-- the text of the module that a definition stands in
abbrev pub module_of : Parts → DefId → Option (List ℕ)
module_of p d = option_and_then (λ part. slice_get p.modules part.module) (def_of p d)

abbrev pub is_pub : Parts → DefId → Bool
is_pub = shown (λ part. part.is_pub) false

abbrev pub is_inline : Parts → DefId → Bool
is_inline = shown (λ part. part.is_inline) false

abbrev pub type_params_of : Parts → DefId → ℕ
type_params_of = shown (λ part. part.type_params) 0

abbrev pub parent_of : Parts → DefId → Option DefId
parent_of = shown (λ part. part.parent) None

-- the lists of fields, one for each variant
abbrev pub variants_of : Parts → DefId → List (List Tree)
variants_of = shown (λ part. part.fields) []

abbrev pub fields_of : Parts → DefId → ℕ → Option (List Tree)
fields_of p d variant = slice_get (variants_of p d) variant

abbrev pub head_of : Parts → DefId → Option Head
head_of = shown (λ part. part.head) None

abbrev pub methods_of : Parts → DefId → List DefId
methods_of = shown (λ part. part.methods) []

abbrev pub drop_impl_of : Parts → DefId → Option DefId
drop_impl_of = shown (λ part. part.drop_impl) None

abbrev pub drop_self_of : Parts → DefId → Option Tree
drop_self_of = shown (λ part. part.drop_self) None

abbrev pub params_of : Parts → DefId → List Tree
params_of = shown (λ part. part.params) []

abbrev pub result_of : Parts → DefId → Option Tree
result_of = shown (λ part. part.result) None

abbrev pub term_of : Parts → DefId → Option Term
term_of = shown (λ part. part.term) None

abbrev pub bounds_of : Parts → DefId → List Head
bounds_of = shown (λ part. part.bounds) []

abbrev pub body_of : Parts → DefId → Option Code
body_of = shown (λ part. part.body) None

-- ---- impls

-- whether the definition is an impl of the trait
abbrev pub gives : DefId → DefPart → Bool
gives tr part = option_map_or (λ head. nat_eq head.tr.0 tr.0) part.head false

-- the impls of a trait, in order of definition
abbrev pub impls_of : Parts → DefId → List DefId
impls_of p tr = map (λ one. record { 0 = one.0 }) (filter (λ one. gives tr one.1) (enumerate_from 0 p.defs))
