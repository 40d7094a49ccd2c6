-- Definitions with their names looked up: an item that is no module is a definition, and with it come those of its methods.
use Rattle.std.specs.Prelude.{ℕ, suc, ◌+◌, Bool, false, List, [], ◌∷◌, ◌++◌, codes, length, map, Option, None, Some}
use Rattle.std.specs.List.{enumerate_from, filter_map}
use Rattle.std.specs.Option.{option_map}
use Rattle.mm_ast.specs.declared.bodies.Body.{Body}
use Rattle.mm_ast.specs.declared.items.Bound.{Bound}
use Rattle.mm_ast.specs.declared.items.BoundForm.{BoundForm}
use Rattle.mm_ast.specs.declared.items.BoundForm.TheVariants as bounds
use Rattle.mm_ast.specs.declared.items.Closure.{Closure}
use Rattle.mm_ast.specs.declared.items.Const.{Const}
use Rattle.mm_ast.specs.declared.items.DefinitionForm.{DefinitionForm}
use Rattle.mm_ast.specs.declared.items.DefinitionForm.TheVariants as definitions
use Rattle.mm_ast.specs.declared.items.DropImpl.{DropImpl}
use Rattle.mm_ast.specs.declared.items.Enum.{Enum}
use Rattle.mm_ast.specs.declared.items.Function.{Function}
use Rattle.mm_ast.specs.declared.items.ImplForm.{ImplForm}
use Rattle.mm_ast.specs.declared.items.ImplForm.TheVariants as impls
use Rattle.mm_ast.specs.declared.items.ImplMethod.{ImplMethod}
use Rattle.mm_ast.specs.declared.items.ItemForm.{ItemForm}
use Rattle.mm_ast.specs.declared.items.ItemForm.TheVariants as forms
use Rattle.mm_ast.specs.declared.items.Method.{Method}
use Rattle.mm_ast.specs.declared.items.Signature.{Signature}
use Rattle.mm_ast.specs.declared.items.Static.{Static}
use Rattle.mm_ast.specs.declared.items.Struct.{Struct}
use Rattle.mm_ast.specs.declared.items.Trait.{Trait}
use Rattle.mm_ast.specs.declared.items.TraitImpl.{TraitImpl}
use Rattle.mm_ast.specs.declared.names.Name.{Name}
use Rattle.mm_ast.specs.declared.types.Type as types
use Rattle.mm_definitions.specs.Paths.{path_in, path_named}
use Rattle.mm_terms.specs.declared.head.Head.{Head}
use Rattle.mm_terms.specs.declared.ids.DefId.{DefId}
use Rattle.mm_terms.specs.declared.tree.Tree.{Tree}
use Rattle.mm_terms.specs.declared.ty_head.TyHead.TheVariants as head
use Rattle.mm_terms.specs.Tree.{node}
use Rattle.mm_program.specs.declared.kind.DefKind.{DefKind}
use Rattle.mm_program.specs.declared.kind.DefKind.TheVariants as kind
use Rattle.mm_program.specs.declared.parts.DefPart.{DefPart}
use Rattle.mm_lower.specs.Bodies.{body_of}
use Rattle.mm_lower.specs.Params.{Params, numbered, self_name, texts}
use Rattle.mm_lower.specs.Paths.{Paths, def_id}
use Rattle.mm_lower.specs.Terms.{term_of}
use Rattle.mm_lower.specs.Types.{type_of, types_of, result_of, trait_of}

-- Where an item stands: its crate, its module and the path of that, and the number of its definition
pub record Site : Type 0 where
  pub krate : ℕ
  pub «module» : ℕ
  pub prefix : List ℕ
  pub number : ℕ

-- a definition that has nothing but a kind, a path and a number of type parameters
abbrev pub plain : Site → DefKind → List ℕ → ℕ → DefPart
plain site kind path type_params = record {
  kind = kind;
  krate = record { 0 = site.krate };
  path = path;
  «module» = site.«module»;
  is_pub = false;
  is_inline = false;
  type_params = type_params;
  parent = None;
  fields = [];
  head = None;
  methods = [];
  drop_impl = None;
  drop_self = None;
  params = [];
  result = None;
  term = None;
  bounds = [];
  body = None;
}

-- the definitions of the members of an item, which follow its own
abbrev pub ids_behind : {A : Type 0} → ℕ → List A → List DefId
ids_behind n [] = []
ids_behind n (x ∷ xs) = def_id (suc n) ∷ ids_behind (suc n) xs

-- the parameters of a definition as its own type arguments
abbrev pub own_args : ℕ → List Name → List Tree
own_args n [] = []
own_args n (name ∷ names) = node (head.Param n) [] ∷ own_args (suc n) names

module _ (paths : Paths) (site : Site) where
  abbrev pub path_here : Name → List ℕ
  path_here name = path_in site.prefix name.text

  -- ---- what definitions have alike

  -- a bound by a trait; one by `Call` asks nothing of a program
  abbrev pub bound_by : Params → types.«Type» → BoundForm → Option Head
  bound_by params self_type (bounds.Trait named) = Some (trait_of paths params self_type named)
  bound_by params self_type bounds.Call = None

  abbrev pub bounds_of : Params → List Bound → List Head
  bounds_of params written = filter_map (λ b. bound_by params b.ty b.form) written

  -- with the types of its parameters and of its result, and its bounds
  abbrev pub with_signature : Params → Signature → List Bound → DefPart → DefPart
  with_signature params s written part = record part {
    params = types_of paths params s.params;
    result = Some (result_of paths params s.result);
    bounds = bounds_of params written;
  }

  -- with a body
  abbrev pub with_body : Params → Signature → Option Body → DefPart → DefPart
  with_body params s body part = record part {
    body = option_map (body_of paths params (result_of paths params s.result) (types_of paths params s.params)) body;
  }

  -- ---- functions

  unfoldable pub function_part : Bool → Function → DefPart
  function_part is_pub f =
      let params = numbered (texts f.type_params) in
      with_body params f.signature (Some f.body) (with_signature params f.signature f.bounds
      (record (plain site kind.Fn (path_here f.name) (length f.type_params)) { is_pub = is_pub; is_inline = f.is_inline }))

  -- a closure's first parameter is a reference to its own type, which is not written
  abbrev pub self_ref : List Name → Tree
  self_ref type_params = node head.Ref (node (head.Closure (def_id site.number)) (own_args 0 type_params) ∷ [])

  unfoldable pub closure_part : Bool → Closure → DefPart
  closure_part is_pub c =
      let params = numbered (texts c.type_params) in
      let types = self_ref c.type_params ∷ types_of paths params c.signature.params in
      let result = result_of paths params c.signature.result in
      record (plain site kind.Closure (path_here c.name) (length c.type_params)) {
        is_pub = is_pub;
        fields = types_of paths params c.captures ∷ [];
        params = types;
        result = Some result;
        body = Some (body_of paths params result types c.body);
      }

  -- ---- types

  unfoldable pub struct_part : Bool → Struct → DefPart
  struct_part is_pub s = record (plain site kind.Struct (path_here s.name) (length s.type_params)) {
    is_pub = is_pub;
    fields = types_of paths (numbered (texts s.type_params)) s.fields ∷ [];
  }

  unfoldable pub enum_part : Bool → Enum → DefPart
  enum_part is_pub e = record (plain site kind.Enum (path_here e.name) (length e.type_params)) {
    is_pub = is_pub;
    fields = map (λ v. types_of paths (numbered (texts e.type_params)) v.fields) e.variants;
  }

  -- ---- values

  unfoldable pub static_part : Bool → Static → DefPart
  static_part is_pub s = record (plain site kind.Static (path_here s.name) 0) {
    is_pub = is_pub;
    result = Some (type_of paths (numbered []) s.ty);
    term = Some (term_of paths (numbered []) s.term);
  }

  unfoldable pub const_part : Bool → Const → DefPart
  const_part is_pub c = record (plain site kind.Const (path_here c.name) (length c.type_params)) {
    is_pub = is_pub;
    result = Some (type_of paths (numbered (texts c.type_params)) c.ty);
    term = Some (term_of paths (numbered (texts c.type_params)) c.term);
  }

  -- ---- traits

  -- A method of a trait with this path and these type parameters, of which `Self` is the first. It is `pub` as its trait is
  unfoldable pub method_part : Bool → List ℕ → List (List ℕ) → Method → DefPart
  method_part is_pub path outer m =
      let params = numbered (outer ++ texts m.type_params) in
      with_body params m.signature m.body (with_signature params m.signature m.bounds
      (record (plain site kind.Method (path_in path m.name.text) (length outer + length m.type_params)) {
        is_pub = is_pub;
        is_inline = m.is_inline;
        parent = Some (def_id site.number);
      }))

  unfoldable pub trait_parts : Bool → Trait → List DefPart
  trait_parts is_pub t =
      let outer = self_name ∷ texts t.type_params in
      record (plain site kind.Trait (path_here t.name) (length outer)) { is_pub = is_pub; methods = ids_behind {A = Method} site.number t.methods }
      ∷ map (method_part is_pub (path_here t.name) outer) t.methods

  -- ---- impls

  -- a method that an impl with these type parameters gives of the trait with this path
  unfoldable pub given_part : List ℕ → List (List ℕ) → ImplMethod → DefPart
  given_part tr outer m =
      let params = numbered (outer ++ texts m.function.type_params) in
      with_body params m.function.signature (Some m.function.body) (with_signature params m.function.signature m.function.bounds
      (record (plain site kind.ImplMethod (path_in tr m.function.name.text) (length outer + length m.function.type_params)) {
        is_inline = m.function.is_inline;
        parent = Some (def_id site.number);
      }))

  unfoldable pub impl_parts : List Name → TraitImpl → List DefPart
  impl_parts type_params i =
      let outer = texts type_params in
      let params = numbered outer in
      record (plain site kind.Impl [] (length type_params)) {
        head = Some (trait_of paths params i.target i.of);
        methods = ids_behind {A = ImplMethod} site.number i.methods;
        bounds = bounds_of params i.bounds;
      }
      ∷ map (given_part (path_named i.of.path) outer) i.methods

  -- the method of a Drop impl has one parameter, and no result is written
  abbrev pub drop_signature : DropImpl → Signature
  drop_signature i = record { params = i.param ∷ []; result = None }

  unfoldable pub drop_method_part : List (List ℕ) → DropImpl → DefPart
  drop_method_part outer i =
      let params = numbered outer in
      with_body params (drop_signature i) (Some i.body) (with_signature params (drop_signature i) []
      (record (plain site kind.ImplMethod (codes "Drop::drop") (length outer)) { is_inline = i.is_inline; parent = Some (def_id site.number) }))

  unfoldable pub drop_parts : List Name → DropImpl → List DefPart
  drop_parts type_params i =
      let params = numbered (texts type_params) in
      record (plain site kind.DropImpl [] (length type_params)) {
        drop_self = Some (type_of paths params i.target);
        methods = def_id (suc site.number) ∷ [];
        bounds = bounds_of params i.bounds;
      }
      ∷ drop_method_part (texts type_params) i
      ∷ []

  -- ---- items

  unfoldable pub definition_parts : Bool → DefinitionForm → List DefPart
  definition_parts is_pub (definitions.Function f) = function_part is_pub f ∷ []
  definition_parts is_pub (definitions.Closure c) = closure_part is_pub c ∷ []
  definition_parts is_pub (definitions.Struct s) = struct_part is_pub s ∷ []
  definition_parts is_pub (definitions.Enum e) = enum_part is_pub e ∷ []
  definition_parts is_pub (definitions.Trait t) = trait_parts is_pub t
  definition_parts is_pub (definitions.Static s) = static_part is_pub s ∷ []
  definition_parts is_pub (definitions.Const c) = const_part is_pub c ∷ []

  unfoldable pub parts_by_impl : List Name → ImplForm → List DefPart
  parts_by_impl type_params (impls.Trait i) = impl_parts type_params i
  parts_by_impl type_params (impls.Drop i) = drop_parts type_params i

  -- the definition of an item, and those of its methods in their order
  unfoldable pub parts_of : ItemForm → List DefPart
  parts_of (forms.Module name) = []
  parts_of (forms.Impl impl) = parts_by_impl impl.type_params impl.form
  parts_of (forms.Definition definition) = definition_parts definition.is_pub definition.form
