-- A small program: a trait, an impl of it for `u64`, a static and a `main` that returns at once.
use Rattle.std.specs.Prelude.{ℕ, false, List, [], ◌∷◌, None, Some, codes}
use Rattle.mm_terms.specs.declared.tree.Tree.{Tree}
use Rattle.mm_terms.specs.declared.ty_head.TyHead.TheVariants as head
use Rattle.mm_terms.specs.Tree.{node}
use Rattle.mm_program.specs.declared.block.Block.{Block}
use Rattle.mm_program.specs.declared.block.End.TheVariants as end
use Rattle.mm_program.specs.declared.kind.DefKind.{DefKind}
use Rattle.mm_program.specs.declared.kind.DefKind.TheVariants as kind
use Rattle.mm_program.specs.declared.parts.DefPart.{DefPart}
use Rattle.mm_program.specs.declared.parts.Parts.{Parts}
use Rattle.mm_program.specs.declared.term.Term.TheVariants as term
use Rattle.mm_program.specs.Code.{Code}

-- a definition that has nothing but a kind, a path and a number of type parameters
abbrev pub bare : DefKind → List ℕ → ℕ → DefPart
bare kind path type_params = record {
  kind = kind;
  krate = record { 0 = 0 };
  path = path;
  «module» = 0;
  is_pub = false;
  is_inline = false;
  type_params = type_params;
  parent = None;
  fields = [];
  head = None;
  methods = [];
  drop_impl = None;
  drop_self = None;
  params = [];
  result = None;
  term = None;
  bounds = [];
  body = None;
}

abbrev pub unit_type : Tree
unit_type = node head.Tuple []

abbrev pub number_type : Tree
number_type = node head.U64 []

-- a block that returns at once
abbrev pub returning : Block
returning = record { statements = []; end = end.Return }

-- one local, and one block
abbrev pub main_body : Code
main_body = record { params = 0; locals = unit_type ∷ []; blocks = returning ∷ [] }

abbrev pub main_part : DefPart
main_part = record (bare kind.Fn (codes "m::main") 0) { result = Some unit_type; body = Some main_body }

abbrev pub trait_part : DefPart
trait_part = bare kind.Trait (codes "m::T") 1

abbrev pub impl_part : DefPart
impl_part = record (bare kind.Impl [] 0) { head = Some (record { tr = record { 0 = 1 }; args = number_type ∷ [] }) }

abbrev pub static_part : DefPart
static_part = record (bare kind.Static (codes "m::S") 0) { result = Some number_type; term = Some (term.Num 5) }

abbrev pub example : Parts
example = record {
  crates = codes "m" ∷ [];
  modules = codes "m" ∷ [];
  main = record { 0 = 0 };
  defs = main_part ∷ trait_part ∷ impl_part ∷ static_part ∷ [];
}
