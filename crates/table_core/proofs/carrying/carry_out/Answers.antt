use Rattle.table_core.proofs.carrying.carry_out.Goals as goal

pub carry-requires-clause-numbers : goal.carry-requires-clause-numbers
carry-requires-clause-numbers c =
    let room = c.requires.room in
    let grants = c.take_room.ensures.grants in
    let tokens = c.take_room.ensures.tokens in
    record {
      next_small = room.next_small;
      first_small = room.first_small;
      numbers = rw grants room.numbers;
      serials = rw tokens room.serials;
      doors = rw c.take_room.ensures.doors room.doors;
      wrongs = rw grants room.wrongs;
      asks = rw grants room.asks;
      approved = rw (grants, tokens) room.approved;
    }
