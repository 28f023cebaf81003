use Rattle.std.proofs.Common.{◌+◌, ◌-◌, ◌≤◌}
use Rattle.gh_log.proofs.AtomLemmas.{Goes}
use Rattle.gh_smt.specs.Reading.{SpellsDeclared}
use Rattle.gh_smt.proofs.reading.count_declared.Given as goal

abbrev pub invariant-declared : goal.invariant-declared
invariant-declared l = record {
  goes : Goes (SpellsDeclared l.kind l.limit l.count l.reader.rest.now)
      (SpellsDeclared l.kind l.limit 0 l.fn.reader.rest.now) (λ n. l.count + n);
  within : l.count ≤ l.limit;
}

abbrev pub decreases-declared : goal.decreases-declared
decreases-declared l = l.limit - l.count
