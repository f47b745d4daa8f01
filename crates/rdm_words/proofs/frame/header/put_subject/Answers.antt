use Rattle.std.proofs.Common.{◌++◌, codes, decimal, option_map, string_bytes}
use Rattle.rdm_words.specs.HeaderWords.{parameter_words, place_words, subject_words}
use Rattle.rdm_words.proofs.Appends.{five}
use Rattle.rdm_words.proofs.frame.header.put_subject.Goals as goal

pub returns : goal.returns
unfolding subject_words
returns c =
    five c.write.result (string_bytes c.args.text.now) (codes " ") _ (parameter_words c.args.pid (option_map (λ name. name.now) c.args.own)) _ (codes ", ") _
    (place_words c.args.sub) _ (codes ", transaction " ++ decimal c.args.tn) _ c.in_ok-push_str.ensures.bytes c.in_ok-put_parameter_by.ensures
    c.in_ok-push_str-2.ensures.bytes c.in_ok-put_place.ensures c.write.ensures.bytes
