-- The words that are calls, each by the grammar of the command line.
use Rattle.eve_tool_arguments.proofs.PlainArguments.{alone, asks, asks_help, asks_help_by_word, audit_call}
use Rattle.eve_tool_arguments.proofs.PlainArguments.{explain_asks, explain_call, json_call, no_json, run_call}
use Rattle.eve_tool_arguments.proofs.PlainArguments.{show_call}
use Rattle.eve_tool_arguments.proofs.PlainArguments.{asks_version, first_call, format_1_call, format_2_call, long_call}
use Rattle.eve_tool_arguments.proofs.PlainArguments.{after_dashes, no_format, no_name, no_worker, too_many}
use Rattle.eve_tool_arguments.proofs.PlainArguments.{explain_json_call, long_json_call, show_json_call}
use Rattle.eve_tool_arguments.proofs.PlainArguments.{two_are_audited}
use Rattle.eve_tool_arguments.proofs.PlainArguments.{two_are_not_run, two_formats, two_names, whole_call}
use Rattle.eve_tool_arguments.proofs.PlainArguments.{whole_format_2_call}
use Rattle.eve_tool.specs.Words.{WordsAreCalls}

pub words_are_calls : WordsAreCalls
words_are_calls = record {
  audit = audit_call;
  json = json_call;
  no_json = no_json;
  explain = explain_call;
  explain_json = explain_json_call;
  show = show_call;
  show_long = long_call;
  show_json = show_json_call;
  show_long_json = long_json_call;
  run = run_call;
  run_whole = whole_call;
  run_first = first_call;
  run_format_1 = format_1_call;
  run_format_2 = format_2_call;
  run_whole_format_2 = whole_format_2_call;
  no_format = no_format;
  two_formats = two_formats;
  one_worker = alone;
  workers = λ name n some most. asks name n some most;
  explain_workers = λ name n some most. explain_asks name n some most;
  no_worker = no_worker;
  too_many = too_many;
  no_file = no_name;
  two_files = two_are_audited;
  in_order = two_names;
  one_file = two_are_not_run;
  after_dashes = after_dashes;
  help = λ name. asks_help name;
  help_word = λ name. asks_help_by_word name;
  version = λ name. asks_version name;
}
