-- Which definitions have bodies whose numbers are those of their own locals and blocks.
use Rattle.std.specs.Prelude.{List, All, IfSome}
use Rattle.mm_program.specs.declared.parts.DefPart.{DefPart}
use Rattle.mm_program.specs.Code.{IsBody}

-- the body of a definition, where it has one
abbrev pub HasBody : DefPart → Type 0
HasBody part = IfSome part.body IsBody

abbrev pub HasBodies : List DefPart → Type 0
HasBodies parts = All HasBody parts
