use Rattle.boards.specs.LayersLemmas.{told_layer, carried_layer, settled_layer}
use Rattle.boards.proofs.delay.DelayPriceBoard.TheImpl.Goals as goal

pub tell-tells : goal.tell-tells
tell-tells g c = record {
  own = c.ensures.own;
  does = λ s. (told_layer _ _ _ _ s.1 (c.ensures.does s.0)).0;
  safe = λ s. (c.ensures.safe s.0, (told_layer _ _ _ _ s.1 (c.ensures.does s.0)).1);
}

pub carry-tells : goal.carry-tells
carry-tells g c = record {
  own = c.ensures.own;
  does = λ s. (carried_layer _ _ _ s.1 (c.ensures.does s.0)).0;
  safe = λ s. (c.ensures.safe s.0, (carried_layer _ _ _ s.1 (c.ensures.does s.0)).1);
}

pub settle-tells : goal.settle-tells
settle-tells g c = record {
  own = c.ensures.own;
  does = λ s. (settled_layer _ _ s.1 (c.ensures.does s.0)).0;
  safe = λ s. (c.ensures.safe s.0, (settled_layer _ _ s.1 (c.ensures.does s.0)).1);
}
