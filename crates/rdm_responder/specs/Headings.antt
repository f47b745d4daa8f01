-- How the code makes a response: its heading apart from its data.
use Rattle.std.specs.Prelude.{ℕ, ◌+◌, List}
use Rattle.rdm_frame.specs.declared.frame.Frame.{Frame}
use Rattle.rdm_frame.specs.declared.message.Message.{Message}
use Rattle.rdm_responder.specs.declared.reply.Heading.{Heading}
use Rattle.rdm_responder.specs.Rules.{Response}

-- the response with this heading and these data
abbrev pub response_with : Heading → List ℕ → Response
response_with h bytes = record { port = h.port; class = h.class; sub = h.sub; pid = h.pid; body = bytes }

-- the heading of a response to the request itself, of this response type
abbrev pub own_heading : Frame → ℕ → Heading
own_heading f port = record { port = port; class = f.class + 1; sub = f.sub; pid = f.pid }

-- the heading of a response that carries a message
abbrev pub message_heading : Message → Heading
message_heading m = record { port = 0; class = m.class; sub = m.sub; pid = m.pid }
