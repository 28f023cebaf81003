-- What stands in the fields of a `ClauseSearch`.
use Rattle.std.specs.Prelude.{◌≡◌, ◌≤◌, length, vec_capacity}
use Rattle.gh_base.specs.Atoms.{count_of}
use Rattle.gh_sat.specs.declared.clause_search.ClauseSearch.TheInside.{Inside}
use Rattle.gh_sat.specs.Trail.{SearchState}
use Rattle.gh_sat.specs.Learn.{marks_of, IsBounded}
use Rattle.gh_sat.specs.Whole.{IsUnderWay}

-- the search that the fields tell
abbrev pub search_of : Inside → SearchState
search_of s =
    record { sizes = s.trail.sizes; clauses = s.clauses.items; trail = s.trail.steps; starts = s.starts.items }

-- the search is whole, all levels have room, and each place has a stamp
abbrev pub HoldsSearch : Inside → Type 0
HoldsSearch s =
    IsUnderWay (search_of s) s.counts.items s.looked s.head s.occurrences
    × (count_of s.trail.sizes ≤ vec_capacity s.starts)
    × (count_of s.trail.sizes ≤ vec_capacity s.counts)
    × IsBounded (marks_of s.marks)
    × (length s.marks.stamps.items ≡ count_of s.trail.sizes)
