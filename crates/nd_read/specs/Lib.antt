pub mod ScriptCalls
pub mod LineGrammar
pub mod LineReaders
pub mod ScriptReading
pub mod LineAndScriptLaws
