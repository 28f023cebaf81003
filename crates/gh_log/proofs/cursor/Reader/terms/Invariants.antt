use Rattle.std.proofs.Common.{◌++◌, take}
use Rattle.gh_log.specs.Reading.{SpellsTerms, ArePadded}
use Rattle.gh_log.proofs.AtomLemmas.{Goes}
use Rattle.gh_log.proofs.cursor.Reader.terms.Given as goal

abbrev pub invariant-loop-count : goal.invariant-loop-count
invariant-loop-count l = record {
  goes : Goes (SpellsTerms l.count l.self.rest.now) (SpellsTerms 0 l.fn.self.rest.now)
      (λ ts. take l.count l.terms ++ ts);
  padded : ArePadded l.terms l.count;
}
