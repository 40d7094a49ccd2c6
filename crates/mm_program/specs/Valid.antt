-- What programs are built of: parts in which every id is there and of its kind, and every arity right.
use Rattle.std.specs.Prelude.{◌≡◌, ℕ, ◌+◌, ◌<◌, ◌≤◌, ◌^◌, ⊤, List, [], length, All, Contains, Some, None, is_some, IsSome, IfSome, IfNone, IsUtf8, codes, slice_get}
use Rattle.std.specs.Bool.{OnTrue, OnFalse}
use Rattle.std.specs.Option.{option_map}
use Rattle.mm_terms.specs.declared.ids.DefId.{DefId}
use Rattle.mm_terms.specs.declared.ty_head.TyHead.TheVariants as head
use Rattle.mm_terms.specs.Tree as tree
use Rattle.mm_program.specs.declared.kind.DefKind.{DefKind}
use Rattle.mm_program.specs.declared.kind.DefKind.TheVariants as kind
use Rattle.mm_program.specs.declared.parts.DefPart.{DefPart}
use Rattle.mm_program.specs.declared.parts.Parts.{Parts}
use Rattle.mm_program.specs.Bodies.{IsBodyIn}
use Rattle.mm_program.specs.Kinds.{is_method, is_code, needs_body, has_term, has_result, is_data, has_one_variant, has_fields, is_impl, is_drop_impl, has_methods, has_bounds}
use Rattle.mm_program.specs.Terms.{IsTermIn}
use Rattle.mm_program.specs.Types.{IsTypeIn, IsHeadIn}
use Rattle.mm_program.specs.Views.{IsOfKind, def_of, crate_of, path_of, type_params_of, parent_of, methods_of, drop_self_of, params_of}

-- it has fewer than 2^32 members
abbrev pub IsShort : {A : Type 0} → List A → Type 0
IsShort xs = length xs < 2 ^ 32

-- a name, a path or a module
pub record IsText (text : List ℕ) : Type 0 where
  pub utf8 : IsUtf8 text
  pub short : IsShort text

-- ---- what a definition has, by its kind

pub record HasItsParts (part : DefPart) : Type 0 where
  pub parent : is_some part.parent ≡ is_method part.kind
  pub head : is_some part.head ≡ is_impl part.kind
  pub drop_self : is_some part.drop_self ≡ is_drop_impl part.kind
  pub result : is_some part.result ≡ has_result part.kind
  pub term : is_some part.term ≡ has_term part.kind
  pub fields : OnFalse (has_fields part.kind) (part.fields ≡ [])
  pub one_variant : OnTrue (has_one_variant part.kind) (length part.fields ≡ 1)
  pub methods : OnFalse (has_methods part.kind) (part.methods ≡ [])
  pub drop_impl : OnFalse (is_data part.kind) (part.drop_impl ≡ None)
  pub params : OnFalse (is_code part.kind) (part.params ≡ [])
  pub bounds : OnFalse (has_bounds part.kind) (part.bounds ≡ [])
  pub bodies : OnFalse (is_code part.kind) (part.body ≡ None)
  pub body : OnTrue (needs_body part.kind) (IsSome part.body)

-- no list has 2^32 members
pub record IsShortPart (part : DefPart) : Type 0 where
  pub variants : IsShort part.fields
  pub fields : All IsShort part.fields
  pub methods : IsShort part.methods
  pub params : IsShort part.params
  pub bounds : IsShort part.bounds

-- its types, heads, term and body are those of the program
pub record HasPartsIn (p : Parts) (part : DefPart) : Type 0 where
  pub in_crate : part.krate.0 < length p.crates
  pub in_module : part.module < length p.modules
  pub path : IsText part.path
  pub fields : All (All (IsTypeIn p part.type_params)) part.fields
  pub head : IfSome part.head (IsHeadIn p part.type_params)
  pub drop_self : IfSome part.drop_self (IsTypeIn p part.type_params)
  pub params : All (IsTypeIn p part.type_params) part.params
  pub result : IfSome part.result (IsTypeIn p part.type_params)
  pub term : IfSome part.term (IsTermIn p part.type_params)
  pub bounds : All (IsHeadIn p part.type_params) part.bounds
  pub body : IfSome part.body (IsBodyIn p part)

-- ---- methods

-- what stands among the methods of a definition of this kind
abbrev pub member_kind : DefKind → DefKind
member_kind kind.Trait = kind.Method
member_kind _ = kind.ImplMethod

-- m is a method of d, and has the type parameters of d before its own
pub record IsMemberOf (p : Parts) (d : DefId) (part : DefPart) (m : DefId) : Type 0 where
  pub kind : IsOfKind p m (member_kind part.kind)
  pub parent : parent_of p m ≡ Some d
  pub krate : crate_of p m ≡ Some part.krate
  pub type_params : part.type_params ≤ type_params_of p m

-- no id stands at two places
abbrev pub IsEachOnce : List DefId → Type 0
IsEachOnce ds = (i j : ℕ) (d : DefId) → slice_get ds i ≡ Some d → slice_get ds j ≡ Some d → i ≡ j

-- m, of an impl d, gives a method of the trait: it has its path, and as many parameters and own type parameters
pub record GivesMethod (p : Parts) (d m tr : DefId) : Type 0 where
  pub method : DefId
  pub there : Contains (methods_of p tr) method
  pub path : path_of p m ≡ path_of p method
  pub own : type_params_of p m + type_params_of p tr ≡ type_params_of p method + type_params_of p d
  pub params : length (params_of p m) ≡ length (params_of p method)

-- the method of a Drop impl d has one parameter, and no type parameters of its own
pub record IsDropMethod (p : Parts) (d m : DefId) : Type 0 where
  pub path : path_of p m ≡ codes "Drop::drop"
  pub type_params : type_params_of p m ≡ type_params_of p d
  pub params : length (params_of p m) ≡ 1

-- by the kind of d: a closure has its first parameter, the reference to its type; a trait has `Self` for a type parameter; an impl
-- gives methods of its trait; a Drop impl has one method; and a static has no type parameters
abbrev pub FitsKind : Parts → DefId → DefPart → DefKind → Type 0
FitsKind p d part kind.Closure = 1 ≤ length part.params
FitsKind p d part kind.Trait = 1 ≤ part.type_params
FitsKind p d part kind.Impl = (part.path ≡ []) × IfSome part.head (λ head. All (λ m. GivesMethod p d m head.tr) part.methods)
FitsKind p d part kind.DropImpl = (part.path ≡ []) × (length part.methods ≡ 1) × All (IsDropMethod p d) part.methods
FitsKind p d part kind.Static = part.type_params ≡ 0
FitsKind p d part _ = ⊤

-- ---- Drop impls

-- a Drop impl whose self type has d as its head
pub record IsDropImplOf (p : Parts) (d impl : DefId) : Type 0 where
  pub kind : IsOfKind p impl kind.DropImpl
  pub self_type : option_map tree.head_of (drop_self_of p impl) ≡ Some (head.Adt d)

-- ---- programs

-- a definition of the program
pub record IsDefinitionIn (p : Parts) (d : DefId) (part : DefPart) : Type 0 where
  pub has : HasItsParts part
  pub short : IsShortPart part
  pub within : HasPartsIn p part
  pub parent : IfSome part.parent (λ parent. Contains (methods_of p parent) d)
  pub methods : All (IsMemberOf p d part) part.methods
  pub once : IsEachOnce part.methods
  pub fits : FitsKind p d part part.kind
  pub drop_impl : IfSome part.drop_impl (IsDropImplOf p d)
  pub no_drop_impl : IfNone part.drop_impl ((impl : DefId) → IsDropImplOf p d impl → ⊥)

-- what a program is built of
pub record IsValid (p : Parts) : Type 0 where
  pub few_crates : IsShort p.crates
  pub crates : All IsText p.crates
  pub few_modules : IsShort p.modules
  pub modules : All IsText p.modules
  pub few_defs : IsShort p.defs
  pub defs : (d : DefId) (part : DefPart) → def_of p d ≡ Some part → IsDefinitionIn p d part
  pub main : IsOfKind p p.main kind.Fn
  pub main_type_params : type_params_of p p.main ≡ 0
  pub main_params : params_of p p.main ≡ []
