use Rattle.whyline.proofs.put_reason.Goals as goal

pub returns-in-NoRequest : goal.returns-in-NoRequest
returns-in-NoRequest c = rw c.in-NoRequest.is c.put_words-in-NoRequest.ensures

pub returns-in-Inactive : goal.returns-in-Inactive
returns-in-Inactive c = rw c.in-Inactive.is c.put_words-in-Inactive.ensures

pub returns-in-Holds : goal.returns-in-Holds
returns-in-Holds c = rw c.in-Holds.is c.put_named.ensures

pub returns-in-Outranked : goal.returns-in-Outranked
returns-in-Outranked c = rw c.in-Outranked.is c.put_named-in-Outranked.ensures

pub returns-in-WinsNext : goal.returns-in-WinsNext
returns-in-WinsNext c = rw c.in-WinsNext.is c.put_words-in-WinsNext.ensures
