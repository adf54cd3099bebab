-- `check_fields::element_at` meets its contract: each return has the test that the definition makes there.
use Rattle.codec.specs.Refusal.{number as refusal}
use Rattle.layout.specs.Got.{got_of}
use Rattle.check_fields.proofs.Element.{element_short, element_beyond, element_seen, element_cut, element_late, element_whole}
use Rattle.check_fields.proofs.element_at.Goals.{then-r-key-via-then-r-key, then-r-key-via-else-r-key+then-seen_key}
use Rattle.check_fields.proofs.element_at.Goals as goal

pub returns-then-left-lt4 : goal.returns-then-left-lt4
unfolding got_of refusal
returns-then-left-lt4 c = element_short _ _ _ _ _ c.requires.1 c.if-left-lt4.true

pub returns-then-r-key : goal.returns-then-r-key
unfolding got_of refusal
returns-then-r-key c =
    let a = c.args in
    elim c.then-r-key.branch [
      | then-r-key-via-then-r-key w ↦
          element_beyond a.s.now a.r a.start a.k a.at c.requires.1 c.if-left-lt4.false _ c.read-key.ensures.value w.if-r-key.true
      | then-r-key-via-else-r-key+then-seen_key w ↦
          element_seen a.s.now a.r a.start a.k a.at c.requires.1 c.if-left-lt4.false _ c.read-key.ensures.value
          w.if-r-key.false _ w.seen_key.ensures w.if-seen_key.true
    ]

pub returns-then-left-lt12 : goal.returns-then-left-lt12
unfolding got_of refusal
returns-then-left-lt12 c = element_cut _ _ _ _ _ c.requires.1 c.if-left-lt4.false _ c.read-key.ensures.value
    c.if-r-key.false _ c.seen_key.ensures c.if-seen_key.false c.if-left-lt12.true

pub returns-then-read-gt-TICK : goal.returns-then-read-gt-TICK
unfolding got_of refusal
returns-then-read-gt-TICK c = element_late _ _ _ _ _ c.requires.1 c.if-left-lt4.false _ c.read-key.ensures.value
    c.if-r-key.false _ c.seen_key.ensures c.if-seen_key.false c.if-left-lt12.false _
    c.read.ensures.value c.if-read-gt-TICK.true

pub returns : goal.returns
unfolding got_of
returns c = element_whole _ _ _ _ _ c.requires.1 c.if-left-lt4.false _ c.read-key.ensures.value
    c.if-r-key.false _ c.seen_key.ensures c.if-seen_key.false c.if-left-lt12.false _
    c.read.ensures.value c.if-read-gt-TICK.false
