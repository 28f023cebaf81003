use Rattle.std.proofs.Common.{◌∙◌, ap, drop, ◌+◌, length, refl}
use Rattle.std.proofs.lemmas.Option.{slice_get_read, slice_get_past}
use Rattle.gh_ast.specs.Programs.{names}
use Rattle.gh_path.specs.Terms.{all_bound}
use Rattle.gh_symb.specs.Tables.{bound_by}
use Rattle.gh_symb.proofs.TableLemmas.{bound_here, bound_past}
use Rattle.gh_symb.proofs.scope.Scope.bind_all.Goals as goal
use Rattle.gh_symb.proofs.scope.Scope.bind_all.Goals.{in-Some+in_ok-bind, in_default}

pub loop-place-preserved : goal.loop-place-preserved
loop-place-preserved c =
    let i = c.loop-place.place in
    elim c.match-get.branch [
      | in-Some+in_ok-bind w ↦
          ap (λ es. all_bound (bound_by es) (names (drop (i + 1) c.args.occs.now)) (drop (i + 1) c.args.terms.now))
          w.self-is
          ∙ bound_here (bound_by c.loop-place.self) (bound_by w.bind.new.self) c.args.occs.now c.index-occs-place.result
          c.args.terms.now w.in-Some.term.now i
          c.loop-place-test.true c.index-occs-place.is
          (let h = w.in-Some.ensures.lookup in
          slice_get_read c.args.terms.now (length c.args.terms.now) i w.in-Some.term.now refl h.3.0 h.1)
          w.in_ok-bind.ensures
          ∙ c.loop-place.invariant
      | in_default w ↦
          ap (λ es. all_bound (bound_by es) (names (drop (i + 1) c.args.occs.now)) (drop (i + 1) c.args.terms.now))
          w.self-is
          ∙ bound_past (bound_by c.loop-place.self) c.args.occs.now c.args.terms.now i
          (let h = w.in_default.ensures.lookup in slice_get_past c.args.terms.now i h.3) ∙ c.loop-place.invariant
    ]
