-- What stands in the fields of `Classes`.
use Rattle.std.specs.Prelude.{ℕ, ◌≡◌, ◌≤◌, ◌*◌, vec_capacity}
use Rattle.gh_base.specs.Atoms.{count_of}
use Rattle.gh_cc.specs.declared.classes.Classes.TheInside.{Inside}
use Rattle.gh_cc.specs.Kept.{Core}
use Rattle.gh_cc.specs.Uses.{all_mentions}

-- what the classes say, without the rooms and the mentions
abbrev pub core_of : Inside → Core
core_of c = record {
  sizes = c.sizes;
  lits = c.lits.items;
  stages = c.stages.items;
  links = c.partition.links;
  entries = c.signatures.entries;
  clash = c.clash;
}

-- all parts are over the same numbers
abbrev pub HaveSizes : Inside → Type 0
HaveSizes c =
    (c.partition.terms ≡ c.sizes.terms)
    × (c.signatures.count ≡ count_of c.sizes)
    × (c.uses.terms ≡ c.sizes.terms)

-- the most atoms of which classes are kept: 32 bits number three mentions of each
abbrev pub most_filed : ℕ
most_filed = 1431655764

-- all atoms have room, each with three mentions
abbrev pub HaveRoom : Inside → Type 0
HaveRoom c =
    (count_of c.sizes ≤ most_filed)
    × (count_of c.sizes ≤ vec_capacity c.lits)
    × (count_of c.sizes ≤ vec_capacity c.stages)
    × (3 * count_of c.sizes ≤ c.uses.room)

-- the mentions are those of the asserted literals, in order
abbrev pub HasMentions : Inside → Type 0
HasMentions c = c.uses.list ≡ all_mentions c.lits.items
