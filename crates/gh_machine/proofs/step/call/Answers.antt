use Rattle.std.proofs.Common.{sym, ap, ◌∙◌, subst, IfSome, ◌++◌, ◌∷◌, []}
use Rattle.gh_ast.specs.Plain.{program_of, procedure_of}
use Rattle.gh_ast.specs.Programs.{Declares}
use Rattle.gh_ast.proofs.Declared.{is_member}
use Rattle.gh_ast.proofs.TypedPrograms.{variables_are_distinct}
use Rattle.gh_assert.specs.Stores.{store_of}
use Rattle.gh_assert.specs.Values.{Give}
use Rattle.gh_machine.specs.Configs.{beginning, ListsVariables}
use Rattle.gh_machine.proofs.Kept.{call_misfits, call_moves, arguments_count, started_lists, pushed_lists}
use Rattle.gh_machine.proofs.step.call.Goals as goal

pub returns-then-len-count_starts-clause-next : goal.returns-then-len-count_starts-clause-next
returns-then-len-count_starts-clause-next c =
    call_misfits (program_of c.args.typed.now) c.args.choice.now c.args.config.now c.args.callee.now
    c.args.arguments.now c.in-Some.values.items (procedure_of c.in-Some-find.procedure.now) c.requires.comes
    (subst (λ o. IfSome o (λ vs. Give (store_of c.args.config.now.top.store) c.args.config.now.heap
    c.args.arguments.now vs.items)) c.in-Some.is c.in_ok-values.ensures.all)
    (subst (λ z. Declares (program_of z) c.args.callee.now.name (procedure_of c.in-Some-find.procedure.now))
    c.program.ensures.same c.in-Some-find.ensures)
    (λ same. c.if-len-count_starts.true
    (c.len.ensures ∙ c.args.choice.now.starts.ok.0 ∙ same ∙ sym c.count_starts.ensures))

pub enter-requires-clause-distinct : goal.enter-requires-clause-distinct
enter-requires-clause-distinct c =
    variables_are_distinct (program_of c.args.typed.now) c.requires.made.typed
    (procedure_of c.in-Some-find.procedure.now)
    (is_member (program_of c.args.typed.now).procedures c.args.callee.now.name
    (procedure_of c.in-Some-find.procedure.now)
    (subst (λ z. Declares (program_of z) c.args.callee.now.name (procedure_of c.in-Some-find.procedure.now))
    c.program.ensures.same c.in-Some-find.ensures))

pub returns-clause-next : goal.returns-clause-next
returns-clause-next c =
    call_moves (program_of c.args.typed.now) c.args.choice.now c.args.config.now c.in_ok-started.started
    c.replace-caller.new.dest c.push_reserved.new.self c.args.callee.now c.args.arguments.now c.in-Some.values.items
    c.in-Some-find.procedure.now
    c.replace-caller.ensures.after c.in_ok-started.ensures.procedure c.requires.comes c.requires.made
    (subst (λ z. Declares (program_of z) c.args.callee.now.name (procedure_of c.in-Some-find.procedure.now))
    c.program.ensures.same c.in-Some-find.ensures)
    (subst (λ o. IfSome o (λ vs. Give (store_of c.args.config.now.top.store) c.args.config.now.heap c.args.arguments.now
    vs.items)) c.in-Some.is c.in_ok-values.ensures.all)
    (sym c.args.choice.now.starts.ok.0 ∙ sym c.len.ensures ∙ c.if-len-count_starts.false ∙ c.count_starts.ensures)
    (c.in_ok-started.ensures.store
    ∙ ap (λ vs. beginning (procedure_of c.in-Some-find.procedure.now) vs c.as_slice-2.result.now)
    c.as_slice.ensures.value ∙ ap (beginning (procedure_of c.in-Some-find.procedure.now) c.in-Some.values.items)
    c.as_slice-2.ensures.value) c.in_ok-started.ensures.rest
    (c.push_reserved.ensures.items ∙ ap (λ bs. bs ++ c.replace-caller.result ∷ []) c.in_ok-reserve.ensures.items
    ∙ ap (λ a. c.args.config.now.below.items ++ a ∷ []) c.replace-caller.ensures.value)

pub returns-clause-lists : goal.returns-clause-lists
returns-clause-lists c = (
  subst ListsVariables (sym c.replace-caller.ensures.after)
      (started_lists c.in_ok-started.started c.in-Some-find.procedure.now c.in-Some.values.items
      c.args.choice.now.starts.items c.in_ok-started.ensures.procedure
      (c.in_ok-started.ensures.store
      ∙ ap (λ vs. beginning (procedure_of c.in-Some-find.procedure.now) vs c.as_slice-2.result.now)
      c.as_slice.ensures.value ∙ ap (beginning (procedure_of c.in-Some-find.procedure.now) c.in-Some.values.items)
      c.as_slice-2.ensures.value)
      (arguments_count (program_of c.args.typed.now) c.args.config.now c.args.callee.now c.args.arguments.now
      c.in-Some.values.items (procedure_of c.in-Some-find.procedure.now) c.requires.comes c.requires.made
      (subst (λ o. IfSome o (λ vs. Give (store_of c.args.config.now.top.store) c.args.config.now.heap
      c.args.arguments.now vs.items)) c.in-Some.is c.in_ok-values.ensures.all)
      (subst (λ z. Declares (program_of z) c.args.callee.now.name (procedure_of c.in-Some-find.procedure.now))
      c.program.ensures.same c.in-Some-find.ensures))
      (sym c.args.choice.now.starts.ok.0 ∙ sym c.len.ensures ∙ c.if-len-count_starts.false ∙ c.count_starts.ensures)),
  pushed_lists c.args.config.now.below.items c.args.config.now.top c.push_reserved.new.self.items
      c.requires.made.lists.1 c.requires.made.lists.0
      (c.push_reserved.ensures.items ∙ ap (λ bs. bs ++ c.replace-caller.result ∷ []) c.in_ok-reserve.ensures.items
      ∙ ap (λ a. c.args.config.now.below.items ++ a ∷ []) c.replace-caller.ensures.value),
)
