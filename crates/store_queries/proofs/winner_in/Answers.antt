-- `store_queries::winner_in` meets its contract, in each of the ways that the two searches go.
use Rattle.std.proofs.Common.{ap, refl, ◌∙◌}
use Rattle.std.specs.Prelude.{Some, Ok}
use Rattle.replication.specs.declared.Location.{Location}
use Rattle.replication.specs.Part.{part_of, located}
use Rattle.store_queries.proofs.Winning.{store_record, batch_record, winner_nobody, winner_theirs, winner_mine, winner_wins, winner_stays}
use Rattle.store_queries.proofs.winner_in.Goals as goal

pub returns-then-wins : goal.returns-then-wins
unfolding part_of located
returns-then-wins c = winner_wins _ _ _ _ _ _ _ c.place_of-mine.ensures c.place_of-theirs.ensures _ c.in-Some-Some.is-0 _ _ c.in-Some-Some.is-1 _
    c.wins.ensures c.if-wins.true (ap (λ (l : Location). part_of (Ok (Some l))) c.record_at.ensures ∙ batch_record _ _ _ refl)

pub returns-else-wins : goal.returns-else-wins
unfolding part_of located
returns-else-wins c = winner_stays _ _ _ _ _ _ _ c.place_of-mine.ensures c.place_of-theirs.ensures _ c.in-Some-Some.is-0 _ _ c.in-Some-Some.is-1 _
    c.wins.ensures c.if-wins.false (ap (λ (l : Location). part_of (Ok (Some l))) c.record_at-else-wins.ensures ∙ store_record _ _ _ refl)

pub returns-in-Some-None : goal.returns-in-Some-None
unfolding part_of located
returns-in-Some-None c = winner_mine _ _ _ _ _ _ _ c.place_of-mine.ensures c.place_of-theirs.ensures _ c.in-Some-None.is-0 _ c.in-Some-None.is-1
    (ap (λ (l : Location). part_of (Ok (Some l))) c.record_at-in-Some-None.ensures ∙ store_record _ _ _ refl)

pub returns-in-None-Some : goal.returns-in-None-Some
unfolding part_of located
returns-in-None-Some c = winner_theirs _ _ _ _ _ _ _ c.place_of-mine.ensures c.place_of-theirs.ensures c.in-None-Some.is-0 _
    c.in-None-Some.is-1 _ (ap (λ (l : Location). part_of (Ok (Some l))) c.record_at-in-None-Some.ensures ∙ batch_record _ _ _ refl)

pub returns-in-None-None : goal.returns-in-None-None
unfolding part_of
returns-in-None-None c = winner_nobody _ _ _ _ _ _ _ c.place_of-mine.ensures c.place_of-theirs.ensures c.in-None-None.is-0
    c.in-None-None.is-1
