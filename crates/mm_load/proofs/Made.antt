-- What the definitions of an item have as they are made, before it is known which Drop impl a type has.
use Rattle.std.specs.Prelude.{◌≡◌, All, IfSome, None, Bool, length}
use Rattle.mm_ast.specs.declared.items.Closure.{Closure}
use Rattle.mm_ast.specs.declared.items.Definition.{Definition}
use Rattle.mm_ast.specs.declared.items.DefinitionForm.TheVariants as definitions
use Rattle.mm_ast.specs.declared.items.ItemForm.TheVariants as forms
use Rattle.mm_lower.specs.Paths.{def_id}
use Rattle.mm_program.specs.declared.kind.DefKind.TheVariants as kind
use Rattle.mm_program.specs.declared.parts.DefPart.{DefPart}
use Rattle.mm_program.specs.declared.parts.Parts.{Parts}
use Rattle.mm_program.specs.Bodies.{IsBodyIn}
use Rattle.mm_program.specs.Terms.{IsTermIn}
use Rattle.mm_program.specs.Types.{IsTypeIn, IsHeadIn}
use Rattle.mm_program.specs.Valid.{HasItsParts, IsShortPart}
use Rattle.mm_program.specs.Views.{IsOfKind, type_params_of}
use Rattle.mm_load.specs.Located.{Located}

pub record IsMade (p : Parts) (part : DefPart) : Type 0 where
  pub has : HasItsParts part
  pub short : IsShortPart part
  pub fields : All (All (IsTypeIn p part.type_params)) part.fields
  pub head : IfSome part.head (IsHeadIn p part.type_params)
  pub drop_self : IfSome part.drop_self (IsTypeIn p part.type_params)
  pub params : All (IsTypeIn p part.type_params) part.params
  pub result : IfSome part.result (IsTypeIn p part.type_params)
  pub term : IfSome part.term (IsTermIn p part.type_params)
  pub bounds : All (IsHeadIn p part.type_params) part.bounds
  pub body : IfSome part.body (IsBodyIn p part)
  pub drop_impl : part.drop_impl ≡ None

-- a closure, which the type of its first parameter names, is in the program by its number
abbrev pub ClosureKnown : Parts → Located → Type 0
ClosureKnown p l = (definition : Definition) (c : Closure) → l.form ≡ forms.Definition definition → definition.form ≡ definitions.Closure c
    → IsOfKind p (def_id l.number) kind.Closure × (length c.type_params ≡ type_params_of p (def_id l.number))
