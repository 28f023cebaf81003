use Rattle.std.proofs.Common.{◌∙◌, ap}
use Rattle.gh_scene.specs.Roles.{roles_of}
use Rattle.gh_scene.proofs.rows.step_row.Goals as goal

pub returns : goal.returns
returns c =
    let x = c.args.before.now in
    let y = c.args.after.now in
    record {
      exchange = c.in_ok-exchange.exchange;
      handed = c.in_ok-exchange.ensures;
      is = record {
        statement_is = c.in_ok-statement.ensures;
        note_is = c.in_ok-note.ensures;
        state_is = c.in_ok-state.ensures;
        roles_are = c.in_ok-roles.ensures ∙ ap (λ h. roles_of x.heap h c.args.spare.now y.heap) c.in_ok-apart.ensures;
        changes_are = c.in_ok-changes.ensures;
      };
    }
