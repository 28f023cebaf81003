-- Heaps split, walks compose, segments and rows, and what an assertion reads: each law in the form in which it is
-- cited.
use Rattle.std.specs.Prelude.{ℕ, ◌+◌, ◌-◌}
use Rattle.std.proofs.Common.{refl, sym, ◌∙◌, inl, inr, arith}
use Rattle.gh_assert.specs.Heaps.{Heap, IsPart, Segment}
use Rattle.gh_assert.specs.Walks.{IsDistance, succ}
use Rattle.gh_assert.specs.Laws.{PartsSplitOff, WalksCompose, UnallocatedStay, WalksAreSimple, SegmentsExist}
use Rattle.gh_assert.specs.Laws.{SegmentsAreWalks, RowsHold, WalksAreShort, ReadingLaw}
use Rattle.gh_assert.proofs.Steps.{steps_add, distance_from, distinct}
use Rattle.gh_assert.proofs.Rows.{rows}
use Rattle.gh_assert.proofs.Cells.{allocated_or, walk_stays, allocated_before}
use Rattle.gh_assert.proofs.Segments.{segment_distance, segment_meets, segment_covers, segment_from}
use Rattle.gh_assert.proofs.Betweens.{between_met, meets_between}
use Rattle.gh_assert.proofs.Unions.{without, part_splits, split_part}
use Rattle.gh_assert.proofs.Tests.{walk_short}
use Rattle.gh_assert.proofs.Reading.{reading}

pub walks_compose : WalksCompose
walks_compose h m n x = steps_add (succ h) (m + n) m n x refl

pub unallocated_stay : UnallocatedStay
unallocated_stay h x y b =
    elim (allocated_or h x) [ inl a ↦ inl a | inr out ↦ inr (sym (walk_stays h x out b.end) ∙ b.distance.arrives) ]

pub walks_are_simple : WalksAreSimple
walks_are_simple h x y n d =
    record { allocated = allocated_before h d; distinct = λ i k l w. distinct d i k (n - k) l (omega arith) }

pub segments_exist : SegmentsExist
segments_exist h x y null = (
  λ s. (s.0, (segment_distance s.0 x y s.1 h s.3 s.2).arrives),
  λ r. from (distance_from (succ h) r.0 x y r.1).0 (distance_from (succ h) r.0 x y r.1).1,
)
  where
    from : (n : ℕ) → IsDistance (succ h) x y n → (n : ℕ) × (a : Heap) × IsPart a h × Segment n x y a
    from n d = segment_from h n x y null d

pub segments_are_walks : SegmentsAreWalks
segments_are_walks h a x y n p s =
    let far : IsDistance (succ h) x y n = segment_distance n x y a h s p in
    record {
      distance = far;
      places = λ q. (segment_meets n x y a h s p q, segment_covers n x y a h s p q);
      between = λ q. (
        λ there. between_met h x y q n far (segment_meets n x y a h s p q there),
        λ b. segment_covers n x y a h s p q (meets_between h x y q n far b.0 b.1),
      );
    }

pub rows_hold : RowsHold
rows_hold h = rows (succ h)

pub walks_are_short : WalksAreShort
walks_are_short h x y null (k, e) = let d = distance_from (succ h) k x y e in (d.0, walk_short h x y d.0 null d.1, d.1)

pub reading_law : ReadingLaw
reading_law = reading

pub parts_split_off : PartsSplitOff
parts_split_off a h = (λ part. (without h a, part_splits a h part), λ split. split_part h a split.0 split.1)
