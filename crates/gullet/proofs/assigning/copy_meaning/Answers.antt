use Rattle.gullet.proofs.assigning.copy_meaning.Goals as goal

pub returns-in-Name : goal.returns-in-Name
returns-in-Name c = record {
  answer = rw c.in-Name.is c.assign_alike.ensures.answer;
  state = rw c.in-Name.is c.assign_alike.ensures.state;
}

pub returns-in-Character : goal.returns-in-Character
returns-in-Character c = record {
  answer = rw c.in-Character.is c.assign_meaning.ensures.answer;
  state = rw c.in-Character.is c.assign_meaning.ensures.state;
}
