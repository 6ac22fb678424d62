mod Tellings
