use Rattle.rdm_words.proofs.Fixed.{request_plain, reply_plain}
use Rattle.rdm_words.proofs.trace_words.put_fault.Goals as goal

pub returns-in-BadRequest-clause-plain : goal.returns-in-BadRequest-clause-plain
returns-in-BadRequest-clause-plain c = rw c.in-BadRequest.is (c.put_raised.ensures.plain request_plain)

pub returns-in-BadReply-clause-words : goal.returns-in-BadReply-clause-words
returns-in-BadReply-clause-words c = rw c.in-BadReply.is c.put_raised-in-BadReply.ensures.words

pub returns-in-BadReply-clause-plain : goal.returns-in-BadReply-clause-plain
returns-in-BadReply-clause-plain c = rw c.in-BadReply.is (c.put_raised-in-BadReply.ensures.plain reply_plain)
