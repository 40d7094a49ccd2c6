-- Constant terms within a program.
use Rattle.std.specs.Prelude.{ℕ, ◌<◌, ◌^◌, ⊤, length}
use Rattle.mm_program.specs.declared.kind.DefKind.TheVariants as kind
use Rattle.mm_program.specs.declared.parts.Parts.{Parts}
use Rattle.mm_program.specs.declared.term.Term.{Term}
use Rattle.mm_program.specs.declared.term.Term.TheFolds.{every-Term}
use Rattle.mm_program.specs.declared.term.Term.TheOpen as layer
use Rattle.mm_program.specs.Bodies.{IsCalleeIn, IsNewIn}
use Rattle.mm_program.specs.Code.{IsCalleeBelow}
use Rattle.mm_program.specs.Views.{IsOfKind}

-- a term, but for the terms within it. It has no locals
abbrev pub IsTermHere : Parts → ℕ → layer.Term-F Term → Type 0
IsTermHere p n (layer.Num k) = ⊤
IsTermHere p n (layer.Truth b) = ⊤
IsTermHere p n (layer.Tuple parts) = length parts < 2 ^ 32
IsTermHere p n (layer.New d args variant parts) = IsNewIn p n d args variant (length parts) × length parts < 2 ^ 32
IsTermHere p n (layer.Fn callee) = IsCalleeIn p n callee × IsCalleeBelow 0 callee
IsTermHere p n (layer.At d) = IsOfKind p d kind.Static

-- a term, where there are n type parameters
unfoldable pub IsTermIn : Parts → ℕ → Term → Type 0
IsTermIn p n = every-Term (IsTermHere p n)
