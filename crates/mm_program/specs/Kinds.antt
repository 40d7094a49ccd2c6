-- Which kinds of definitions have what.
use Rattle.std.specs.Prelude.{Bool, true, false}
use Rattle.mm_program.specs.declared.kind.DefKind.{DefKind}
use Rattle.mm_program.specs.declared.kind.DefKind.TheVariants.{Fn, Closure, Struct, Enum, Trait, Method, Impl, ImplMethod, DropImpl, Static, Const}

-- a method, of a trait or of an impl
abbrev pub is_method : DefKind → Bool
is_method Method = true
is_method ImplMethod = true
is_method _ = false

-- what can have a body: functions, methods and closures
abbrev pub is_code : DefKind → Bool
is_code Fn = true
is_code Closure = true
is_code Method = true
is_code ImplMethod = true
is_code _ = false

-- what has a body in any case: all but a method of a trait
abbrev pub needs_body : DefKind → Bool
needs_body Method = false
needs_body kind = is_code kind

-- what has a value
abbrev pub has_term : DefKind → Bool
has_term Static = true
has_term Const = true
has_term _ = false

-- what has a result type, or a type
abbrev pub has_result : DefKind → Bool
has_result Static = true
has_result Const = true
has_result kind = is_code kind

-- a type that a Drop impl can be for
abbrev pub is_data : DefKind → Bool
is_data Struct = true
is_data Enum = true
is_data _ = false

-- what has fields in one list
abbrev pub has_one_variant : DefKind → Bool
has_one_variant Struct = true
has_one_variant Closure = true
has_one_variant _ = false

-- what has fields, and can be made
abbrev pub has_fields : DefKind → Bool
has_fields Enum = true
has_fields kind = has_one_variant kind

abbrev pub is_impl : DefKind → Bool
is_impl Impl = true
is_impl _ = false

abbrev pub is_drop_impl : DefKind → Bool
is_drop_impl DropImpl = true
is_drop_impl _ = false

-- what methods stand in
abbrev pub has_methods : DefKind → Bool
has_methods Trait = true
has_methods Impl = true
has_methods DropImpl = true
has_methods _ = false

-- what can have bounds
abbrev pub has_bounds : DefKind → Bool
has_bounds Fn = true
has_bounds Method = true
has_bounds ImplMethod = true
has_bounds Impl = true
has_bounds DropImpl = true
has_bounds _ = false
