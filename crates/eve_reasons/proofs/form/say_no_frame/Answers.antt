use Rattle.eve_reasons.proofs.form.say_no_frame.Goals as goal

pub returns-in-AfterEnd : goal.returns-in-AfterEnd
returns-in-AfterEnd c = rw c.in-AfterEnd.is c.say.ensures

pub returns-in-TooFew : goal.returns-in-TooFew
returns-in-TooFew c = rw c.in-TooFew.is c.say-in-TooFew.ensures

pub returns-in-Kind : goal.returns-in-Kind
returns-in-Kind c = rw c.in-Kind.is c.say_byte.ensures

pub returns-in-Cut : goal.returns-in-Cut
returns-in-Cut c = rw c.in-Cut.is c.say-in-Cut.ensures
