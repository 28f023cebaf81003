use Rattle.std.proofs.Common.{◌+◌, ◌≤◌}
use Rattle.std.specs.FinMap.{len}
use Rattle.gh_ast.specs.Plain.{program_of}
use Rattle.gh_machine.specs.Configs.{config_of, IsMadeFor}
use Rattle.gh_run.specs.Halts.{Leads}
use Rattle.gh_run.proofs.rule.run_ruled.Given as goal

abbrev pub invariant-loop-steps : goal.invariant-loop-steps
invariant-loop-steps l = record {
  leads : Leads (program_of l.typed) (config_of l.initial.config) l.steps (config_of l.config);
  made : IsMadeFor (program_of l.typed) l.config;
  room : len (config_of l.config).heap ≤ len (config_of l.initial.config).heap + l.steps;
}
