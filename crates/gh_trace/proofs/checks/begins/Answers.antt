use Rattle.std.proofs.Common.{subst, sym}
use Rattle.std.proofs.lemmas.Result.{IfOk-weaker}
use Rattle.gh_assert.specs.Meaning.{Meaning}
use Rattle.gh_assert.specs.Stores.{store_of}
use Rattle.gh_trace.proofs.checks.begins.Goals as goal

pub returns-in_default-clause-begins : goal.returns-in_default-clause-begins
returns-in_default-clause-begins c = absurd (c.in_default.ensures.none c.requires.there)

pub returns-clause-begins : goal.returns-clause-begins
returns-clause-begins c =
    IfOk-weaker c.holds.result _ _
    (λ b w. (
      λ t. (
        c.is_over.ensures.0 c.if-not-is_over.false,
        subst (λ f. Meaning f (store_of c.args.state.now.store) c.args.state.now.heap) (sym c.in-Some.ensures.some)
            (w.0 t),
      ),
      λ begins. w.1 (subst (λ f. Meaning f (store_of c.args.state.now.store) c.args.state.now.heap)
          c.in-Some.ensures.some begins.1),
    )) c.holds.ensures
