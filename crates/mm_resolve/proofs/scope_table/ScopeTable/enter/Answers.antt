use Rattle.std.proofs.Common.{◌≡◌, ◌++◌, filter, refl, sym, ◌∙◌, ap}
use Rattle.std.proofs.lemmas.List.Elements.{filter-append}
use Rattle.mm_resolve.specs.Resolving.{look_up, first_of}
use Rattle.mm_resolve.specs.Scopes.{Scope, Knows, all}
use Rattle.mm_resolve.proofs.TableLemmas.{after_more}
use Rattle.mm_resolve.proofs.scope_table.ScopeTable.enter.Goals as goal

pub returns : goal.returns
returns c = λ scope knows.
    record {
      all = ap look_up c.all-2.view_is ∙ after_more (all scope) c.args.own.now (look_up c.args.self.all) (look_up c.add_all.new.index) knows.all c.in_ok-add_all.ensures;
      shared =
          ap look_up c.shared.view_is
          ∙ after_more (filter (λ d. d.is_pub) scope.earlier) (filter (λ d. d.is_pub) c.args.self.defined.now) (look_up c.args.self.shared) (look_up c.add_shared.new.index) knows.shared c.in_ok-add_shared.ensures
          ∙ ap (λ ds. first_of (filter (λ d. d.is_pub) scope.earlier ++ filter (λ d. d.is_pub) ds)) knows.defined
          ∙ ap first_of (sym (filter-append (λ d. d.is_pub) scope.earlier scope.own));
      own = c.in_ok-index_of.ensures;
      defined = refl;
    }
