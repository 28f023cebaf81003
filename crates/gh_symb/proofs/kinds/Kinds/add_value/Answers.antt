use Rattle.std.proofs.Common.{◌≡◌, map, sym, subst, arith}
use Rattle.std.proofs.lemmas.Grind.{common_steps}
use Rattle.gh_path.specs.Terms.{with_value}
use Rattle.gh_symb.specs.Tables.{kind_of, AreListed}
use Rattle.gh_symb.proofs.KindLemmas.{value_listed}
use Rattle.gh_symb.proofs.kinds.Kinds.add_value.Goals as goal

pub invariant_of-self-2 : goal.invariant_of-self-2
invariant_of-self-2 c =
    let items = c.self.inside.kinds.items in
    let more : map kind_of c.push.new.self.items ≡ with_value (map kind_of items) = grind (arith, common_steps) in
    subst AreListed (sym more) (value_listed (map kind_of items) c.self.invariant)
