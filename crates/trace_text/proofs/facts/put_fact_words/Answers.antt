use Rattle.trace_text.proofs.facts.put_fact_words.Goals as goal

pub returns-in-WriteFailed-clause-items : goal.returns-in-WriteFailed-clause-items
returns-in-WriteFailed-clause-items c = rw c.in-WriteFailed.is c.put_with_entity-in-WriteFailed.ensures.items

pub returns-in-Remembered-clause-items : goal.returns-in-Remembered-clause-items
returns-in-Remembered-clause-items c = rw c.in-Remembered.is c.put_with_name.ensures.items
