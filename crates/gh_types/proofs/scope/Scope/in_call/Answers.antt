use Rattle.std.proofs.Common.{map, sym, ◌∙◌, inl, inr}
use Rattle.std.proofs.lemmas.Bool.{eqb-false, ne_eqb}
use Rattle.gh_ast.specs.Plain.{procedure_of}
use Rattle.gh_types.proofs.CallLemmas.{first_counted, first_unknown}
use Rattle.gh_types.proofs.scope.Scope.in_call.Goals.{then-arguments-len, else-arguments-len}
use Rattle.gh_types.proofs.scope.Scope.in_call.Goals as goal

pub returns-after-arguments-len : goal.returns-after-arguments-len
returns-after-arguments-len c =
    first_counted (map procedure_of c.args.self.now.procedures.now) (procedure_of c.args.self.now.own.now)
    c.args.targets.now c.args.callee.now c.args.arguments.now c.unless.result
    (procedure_of c.in-Some.procedure.now) c.if-arguments-len.counts c.in-Some.ensures
    (λ wrong. elim c.if-arguments-len.branch [
      | then-arguments-len w ↦ inr
          (λ same. eqb-false _ _ (sym w.counts-is ∙ wrong)
          (same ∙ sym (w.len-then-arguments-len.ensures ∙ c.in-Some.procedure.now.results.ok.0)))
      | else-arguments-len w ↦ inl
          (λ same. w.if-arguments-len.false (same ∙ sym (c.len.ensures ∙ c.in-Some.procedure.now.parameters.ok.0)))
    ])
    (λ differs. elim c.if-arguments-len.branch [
      | then-arguments-len w ↦ elim differs [
        | inl arguments ↦ absurd (arguments
            (w.if-arguments-len.true ∙ (c.len.ensures ∙ c.in-Some.procedure.now.parameters.ok.0)))
        | inr targets ↦ w.counts-is
            ∙ ne_eqb _ _ (λ same. targets
            (same ∙ (w.len-then-arguments-len.ensures ∙ c.in-Some.procedure.now.results.ok.0)))
      ]
      | else-arguments-len w ↦ w.counts-is ∙ ne_eqb _ _ w.if-arguments-len.false
    ])
    c.unless.ensures

pub returns-in-None : goal.returns-in-None
returns-in-None c =
    first_unknown (map procedure_of c.args.self.now.procedures.now) (procedure_of c.args.self.now.own.now)
    c.args.targets.now c.args.callee.now c.args.arguments.now c.unless-in-None.result
    c.in-None.ensures c.unless-in-None.ensures
